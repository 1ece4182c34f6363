mod FloatLemmas
mod HeadLemmas
mod Plain
