mod Pushed
mod NamedFiles
