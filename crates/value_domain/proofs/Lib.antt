pub mod CellsLaws
pub mod ExtendsLaws
pub mod Told
