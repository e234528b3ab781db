-- The word of each verb.
use Rattle.std.specs.Prelude.{ℕ, List, codes}
use Rattle.lk_word_parsers.specs.declared.verb.Verb.{Verb}
use Rattle.lk_word_parsers.specs.declared.verb.Verb.TheVariants.{Acquire, Release, Ask, Check, Share, Break, Join}
use Rattle.lk_word_parsers.specs.declared.verb.Verb.TheVariants.{Leave}
use Rattle.lk_word_parsers.specs.declared.verb.Verb.TheVariants.{Raise, Raw}

abbrev pub word_of : Verb → List ℕ
word_of Acquire = codes "acquire"
word_of Release = codes "release"
word_of Ask = codes "ask"
word_of Check = codes "check"
word_of Share = codes "share"
word_of Break = codes "break"
word_of Join = codes "join"
word_of Leave = codes "leave"
word_of Raise = codes "raise"
word_of Raw = codes "raw"
