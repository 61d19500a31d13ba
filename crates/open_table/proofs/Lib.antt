mod PartLemmas
mod LinkLemmas
mod CallLemmas
mod KeyLemmas
mod StopLemmas
mod WalkLemmas
mod ShowLemmas
