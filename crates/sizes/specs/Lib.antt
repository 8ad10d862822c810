-- Which words the laws of the angles are about, and between which numbers their answers lie.
pub mod Angles
