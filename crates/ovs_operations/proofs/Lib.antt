pub mod ReadLaws
pub mod Mutated
pub mod Courses
pub mod Places
pub mod Fronts
