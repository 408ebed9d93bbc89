pub mod DateTexts
mod SpanTexts
