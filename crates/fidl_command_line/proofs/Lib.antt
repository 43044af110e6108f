mod Commands
mod HandleText
mod HandleTexts
mod HexText
mod Paths
