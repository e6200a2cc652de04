pub mod Layouts
pub mod Mnemonics
pub mod Halfwords
pub mod Text
pub mod Fixed
pub mod Placing
pub mod Reading
pub mod Strip
