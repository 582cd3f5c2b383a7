pub mod Places
pub mod Meaning
pub mod TrainPlan
pub mod ConsistPlan
pub mod HomeLayer
pub mod HomeLayerLemmas
