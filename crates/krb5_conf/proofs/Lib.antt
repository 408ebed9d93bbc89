mod FirstLaws
mod LineLaws
mod TextLaws
