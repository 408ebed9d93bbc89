pub mod BitLaws
pub mod TextLaws
pub mod PlainText
pub mod TextAscii
