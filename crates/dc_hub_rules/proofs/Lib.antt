pub mod HubLemmas
pub mod OneMore
