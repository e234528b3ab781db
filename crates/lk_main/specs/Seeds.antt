-- What `locks seed` is to do, by the words of its arguments.
use Rattle.std.specs.Prelude.{◌≡◌, ◌≤◌, ℕ, Option, None, Some, List, [], ◌∷◌, codes, map}
use Rattle.clap.specs.declared.parser.matches.ArgMatches.{ArgMatches}
use Rattle.lk_types.specs.Ranges.{IsNode}
use Rattle.lk_types.specs.declared.member.Member.{Member}
use Rattle.lk_word_parsers.specs.Geneses.{SpellsGenesis}
use Rattle.lk_store_format.specs.Values.{HeaderValue}
use Rattle.lk_command_line.specs.Arguments.{word_of, words_of}
use Rattle.lk_command_line.specs.Spellings.{Spells}
use Rattle.lk_seed.specs.Words.{SpellAllWanted}
use Rattle.lk_seed.specs.declared.seed.SeedPlan.{SeedPlan}
use Rattle.lk_seed.specs.declared.wanted.Wanted.{Wanted}

-- the store is that of the node and the genesis that the words spell, and the node is the only member
pub record IsAlone (m : ArgMatches) (header : HeaderValue) : Type 0 where
  pub genesis : SpellsGenesis (word_of m (codes "genesis")) header.cluster header.alpha header.members
  pub node : Spells IsNode (word_of m (codes "number")) header.node
  pub only : map (λ (member : Member). member.node) header.members ≡ header.node ∷ []

-- each word spells what is wanted of a name; without words nothing is
abbrev pub AreWantedBy : Option (List (List ℕ)) → List Wanted → Type 0
AreWantedBy None wanted = wanted ≡ []
AreWantedBy (Some words) wanted = SpellAllWanted words wanted

-- each part of the plan is what its arguments spell
pub record PlansSeed (m : ArgMatches) (p : SeedPlan) : Type 0 where
  pub alone : IsAlone m p.header
  pub folder : p.folder.now ≡ word_of m (codes "dir")
  pub past : Spells (λ n. n ≤ 281474976710655) (word_of m (codes "past")) p.past
  pub wanted : AreWantedBy (words_of m (codes "name")) p.wanted.items
