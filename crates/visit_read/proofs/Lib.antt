-- The steps of the readers, and that they read what the definitions of visit read.
pub mod Laid
pub mod SlotCases
pub mod GroupCases
pub mod SameSlots
pub mod SameGroups
pub mod SameWhole
pub mod OneAnswer
