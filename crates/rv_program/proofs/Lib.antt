mod Mistakes
mod Streams
