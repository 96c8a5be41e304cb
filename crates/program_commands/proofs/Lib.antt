mod Entries
mod Made
mod PairLines
mod Refusing
