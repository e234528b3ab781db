-- How words spell a client's operation.
use Rattle.std.specs.Prelude.{◌≡◌, ◌≤◌, ℕ, List, [], ◌∷◌, ◌++◌, length, Ok, codes}
use Rattle.std.specs.Fmt.{decimal}
use Rattle.hex.specs.Hex.{decode_of}
use Rattle.lk_types.specs.Ranges.{IsNode, IsPort, IsTotal}
use Rattle.lk_types.specs.Payloads.{IsPayload}
use Rattle.lk_types.specs.declared.command.Op.{Op}
use Rattle.lk_types.specs.declared.command.Op.TheVariants.{Table, Join, Leave, Raise}
use Rattle.lk_codec.specs.Fields.{eight}
use Rattle.lk_word_parsers.specs.Words.{HasNoSpace}
use Rattle.lk_word_parsers.specs.Verbs.{word_of}
use Rattle.lk_word_parsers.specs.declared.verb.Verb.{Verb}
use Rattle.lk_word_parsers.specs.declared.verb.Verb.TheVariants as verb

-- a word that has room in a body as the name, though it may name no lock
abbrev pub IsNameWord : List ℕ → Type 0
IsNameWord word = (1 ≤ length word) × (length word ≤ 54) × HasNoSpace word

-- a body: its first byte, the name after its length, and the rest
abbrev pub body : ℕ → List ℕ → List ℕ → List ℕ
body kind name rest = kind ∷ length name ∷ (name ++ rest)

-- an operation on a name is the body with this first byte
abbrev pub AsksOfName : ℕ → List ℕ → Op → Type 0
AsksOfName kind words o = IsNameWord words × (o ≡ Table (body kind words []))

-- so is one on a name and a fence, which may be 0, though that is never granted
abbrev pub AsksOfFence : ℕ → List ℕ → Op → Type 0
AsksOfFence kind words o = (name : List ℕ) × (fence : ℕ) × (words ≡ name ++ 32 ∷ decimal fence)
    × IsNameWord name × IsTotal fence × (o ≡ Table (body kind name (eight fence)))

-- a join of a node and its port
abbrev pub AsksToJoin : List ℕ → Op → Type 0
AsksToJoin words o = (node : ℕ) × (port : ℕ) × (words ≡ decimal node ++ 32 ∷ decimal port)
    × IsNode node × IsPort port × (o ≡ Join node port)

-- a leave of a node
abbrev pub AsksToLeave : List ℕ → Op → Type 0
AsksToLeave words o = (node : ℕ) × (words ≡ decimal node) × IsNode node × (o ≡ Leave node)

-- the version to which the machine is raised: there is one
abbrev pub AsksToRaise : List ℕ → Op → Type 0
AsksToRaise words o = (words ≡ codes "2") × (o ≡ Raise)

-- hex digits in either case, two a byte, spell the body
abbrev pub AsksInHex : List ℕ → Op → Type 0
AsksInHex digits o = (bytes : List ℕ) × (decode_of digits ≡ Ok bytes) × IsPayload bytes × (o ≡ Table bytes)

-- the operation of the words after a verb
abbrev pub SpellsOperation : Verb → List ℕ → Op → Type 0
SpellsOperation verb.Acquire = AsksOfName 1
SpellsOperation verb.Release = AsksOfFence 2
SpellsOperation verb.Ask = AsksOfName 3
SpellsOperation verb.Check = AsksOfFence 4
SpellsOperation verb.Share = AsksOfName 5
SpellsOperation verb.Break = AsksOfFence 6
SpellsOperation verb.Join = AsksToJoin
SpellsOperation verb.Leave = AsksToLeave
SpellsOperation verb.Raise = AsksToRaise
SpellsOperation verb.Raw = AsksInHex

-- the text is that of an operation: a verb, a space, and words of that verb
abbrev pub SpellsOp : List ℕ → Op → Type 0
SpellsOp text o = (v : Verb) × (words : List ℕ) × (text ≡ word_of v ++ 32 ∷ words) × SpellsOperation v words o
