pub mod Lines
pub mod PlantedForListing
pub mod OneText
