pub mod FieldLemmas
pub mod FragmentLemmas
pub mod StepLemmas
pub mod BurstLemmas
