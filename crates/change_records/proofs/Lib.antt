mod Reading
mod HeadLemmas
mod StandLemmas
mod ReaderLemmas
mod Decoding
