mod CarryLemmas
mod RowLemmas
mod StepLemmas
mod SymbolLemmas
mod WalkLemmas
