-- The nodes to which a step sends, and its envelopes to several of them. The sets are those of the node's window.
use Rattle.std.specs.Prelude.{◌≡◌, ℕ, not, ◌==◌, Option, List, [], ◌∷◌, map, filter}
use Rattle.std.specs.List.{position}
use Rattle.lk_types.specs.declared.member.Member.{Member}
use Rattle.lk_store_format.specs.Values.{HeaderValue}
use Rattle.lk_messages.specs.Grammar.{spelling}
use Rattle.lk_messages.specs.declared.message.NodeMessage.{NodeMessage}
use Rattle.lk_members.specs.Ports.{is_named, AreAllAbove, port_of, number_or_zero}
use Rattle.lk_node_interface.specs.Envelopes.{EnvelopeValue}
use Rattle.lk_node_interface.specs.Saying.{saying}
use Rattle.lk_node_interface.specs.declared.to.To.{To}
use Rattle.lk_node_interface.specs.declared.to.To.TheVariants as to

-- the nodes that some set of the window names, in rising order
abbrev pub AreWindowNodes : List (List Member) → List ℕ → Type 0
AreWindowNodes sets ns = AreAllAbove (λ k. is_named k sets) 0 ns

-- those without this node
abbrev pub AreOthers : List (List Member) → ℕ → List ℕ → Type 0
AreOthers sets own_node ns = (all : List ℕ) × AreWindowNodes sets all × (ns ≡ filter (λ k. not (k == own_node)) all)

-- the members of the next position
abbrev pub next_members : List (List Member) → List Member
next_members [] = []
next_members (set ∷ sets) = set

-- the place of the node among them, from 0
abbrev pub index_in : List (List Member) → ℕ → Option ℕ
index_in sets node = position (λ m. m.node == node) (next_members sets)

-- a node, and its port in the window
abbrev pub to_node : List (List Member) → ℕ → To
to_node sets node = to.Node node (number_or_zero (port_of node sets))

-- a node of this header sends this to each of these
abbrev pub envelopes_to : HeaderValue → List (List Member) → NodeMessage → List ℕ → List EnvelopeValue
envelopes_to whose sets message nodes =
    map (λ k. record { to = to_node sets k; bytes = spelling (saying whose message) }) nodes
