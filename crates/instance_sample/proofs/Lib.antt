pub mod Sample
pub mod Campaign
