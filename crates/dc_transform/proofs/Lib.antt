mod HalfLemmas
mod PowerLemmas
mod QuarterLemmas
