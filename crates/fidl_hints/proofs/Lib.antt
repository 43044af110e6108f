mod Ends
mod Nearer
