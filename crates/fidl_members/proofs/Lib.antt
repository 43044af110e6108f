mod Sorted
mod Named
mod Read
