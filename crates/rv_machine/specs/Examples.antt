-- Examples that the definitions compute: instructions, small images and their runs, and words read.
pub mod Rows
pub mod Programs
pub mod Words
