pub mod Firsts
pub mod FirstLaws
pub mod SeenIds
