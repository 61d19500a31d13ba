mod FailingLayout
mod GateCall
mod SweepLemmas
