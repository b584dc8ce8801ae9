pub mod FirstsSaid
pub mod KeysSeen
pub mod NewLines
