mod Changed
mod RunWords
