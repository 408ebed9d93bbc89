mod Granting
mod LoggingIn
mod Presenting
mod Same
