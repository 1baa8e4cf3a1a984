pub mod RowLemmas
pub mod FieldLemmas
pub mod LogLemmas
pub mod ReceivingLemmas
pub mod SendingLemmas
pub mod StationLemmas
