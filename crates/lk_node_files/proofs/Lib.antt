mod OlderLaws
mod OpeningLaws
mod LiveLaws
mod CutLaws
mod OutdatedLaws
