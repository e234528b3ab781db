mod AdminLaws
mod OutsiderLaws
