mod DepthLemmas
