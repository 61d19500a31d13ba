mod DoesLemmas
mod StopLemmas
mod WalkLemmas
mod TallyLemmas
mod SearchLemmas
