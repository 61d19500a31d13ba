mod ShareLemmas
