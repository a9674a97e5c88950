mod Overlays
mod Answering
mod PostingRows
