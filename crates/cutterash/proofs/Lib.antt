mod Values
mod TextLemmas
mod ReplyLemmas
mod NoKept
