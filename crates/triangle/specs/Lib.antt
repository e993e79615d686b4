pub mod Half
pub mod Face
pub mod Cell
