-- What `clap` found of an argument, and what an error names.
use Rattle.std.specs.Prelude.{◌≡◌, ◌⊎◌, ℕ, Bool, List, [], Option, None, Some, codes}
use Rattle.std.specs.Prelude.{is_some, option_map, unwrap_or}
use Rattle.clap.specs.Matches.{found_of, first_value, matched_of, one_text, raw_values}
use Rattle.clap.specs.declared.parser.matches.ArgMatches.{ArgMatches}
use Rattle.lk_command_line.specs.declared.argument_error.ArgumentError.{ArgumentError}

-- the argument was given with a word
abbrev pub is_given : ArgMatches → List ℕ → Bool
is_given m name = is_some (first_value (found_of m) name)

-- its first word, empty if it was not given
abbrev pub word_of : ArgMatches → List ℕ → List ℕ
word_of m name = unwrap_or (first_value (found_of m) name) []

-- all its words, if it was given
abbrev pub words_of : ArgMatches → List ℕ → Option (List (List ℕ))
words_of m name = option_map raw_values (matched_of (found_of m) name)

-- the flag was given
abbrev pub IsSet : ArgMatches → List ℕ → Type 0
IsSet m name = one_text (found_of m) name ≡ Some (codes "true")

-- the flag was not given
abbrev pub IsUnset : ArgMatches → List ℕ → Type 0
IsUnset m name = (one_text (found_of m) name ≡ None) ⊎ (one_text (found_of m) name ≡ Some (codes "false"))

-- the error names this argument and this word
abbrev pub Names : List ℕ → List ℕ → ArgumentError → Type 0
Names argument word e = (e.argument.now ≡ argument) × (e.value.now ≡ word)
