pub mod TableRunLaws
pub mod PrintLaws
pub mod Following
pub mod ScriptLaws
pub mod OutputLaws
