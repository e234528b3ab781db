-- How a node handles a client's request.
use Rattle.std.specs.Prelude.{◌≡◌, ℕ, Option, Some, None, List}
use Rattle.std.specs.Option.{option_map}
use Rattle.lk_types.specs.declared.command.Request.{Request as RequestValue}
use Rattle.lk_types.specs.declared.member.Member.{Member}
use Rattle.lk_messages.specs.declared.message.NodeMessage.{NodeMessage}
use Rattle.lk_messages.specs.declared.message.NodeMessage.TheVariants as kinds
use Rattle.lk_members.specs.Ports.{port_of}
use Rattle.lk_state.specs.Sessions.{session_of}
use Rattle.lk_state.specs.Runs.{seen_as}
use Rattle.lk_state.specs.declared.whole.Seen.{Seen}
use Rattle.lk_state.specs.declared.whole.Seen.TheVariants as seen
use Rattle.lk_leader.specs.Terms.{TermValue}
use Rattle.lk_leader.specs.Waits.{asked}
use Rattle.lk_node_interface.specs.Outboxes.{OutboxValue, nothing}
use Rattle.lk_node_interface.specs.declared.to.To.TheVariants as to
use Rattle.lk_node.specs.NodeValue.{NodeValue}
use Rattle.lk_node.specs.Replying.{SaysAlone}

-- nothing changes, and the client is told only this
abbrev pub TellsClient : NodeValue → ℕ → NodeMessage → NodeValue → OutboxValue → Type 0
TellsClient old client message new out = (new ≡ old) × SaysAlone old (to.Client client) message out

-- the request waits too
abbrev pub with_waiting : RequestValue → NodeValue → NodeValue
with_waiting r node = record node { leader = record { term = node.leader.term; waiting = asked r node.leader.waiting } }

-- the known leader with its port in the window, if the window names it
abbrev pub leader_in : Option ℕ → List (List Member) → Option Member
leader_in None sets = None
leader_in (Some node) sets = option_map (λ port. record { node = node; port = port }) (port_of node sets)

-- the client is sent to that member, if there is one
abbrev pub PointsTo : Option Member → NodeValue → RequestValue → NodeValue → OutboxValue → Type 0
PointsTo None old r new out = (new ≡ old) × (out ≡ nothing)
PointsTo (Some member) old r new out =
    TellsClient old r.client
    (kinds.Elsewhere (record { client = r.client; number = r.number; member = member })) new out

-- a new request waits at a node with a term; without a term its client is sent to the known leader
abbrev pub QueuesOrRedirects : Option TermValue → NodeValue → RequestValue → NodeValue → OutboxValue → Type 0
QueuesOrRedirects None old r new out = PointsTo (leader_in old.known old.learner.whole.roster.sets) old r new out
QueuesOrRedirects (Some term) old r new out = (new ≡ with_waiting r old) × (out ≡ nothing)

-- the number of the client's last request gets the stored answer, a smaller one the last number
abbrev pub RepliesAs : Seen → NodeValue → RequestValue → NodeValue → OutboxValue → Type 0
RepliesAs (seen.Same answer) old r new out =
    TellsClient old r.client (kinds.Answer (record { client = r.client; number = r.number; answer = answer })) new out
RepliesAs (seen.Passed last) old r new out =
    TellsClient old r.client (kinds.Passed (record { client = r.client; number = r.number; last = last })) new out
RepliesAs seen.New old r new out = QueuesOrRedirects old.leader.term old r new out

-- what the node does with a request, by its number and that of its client's last one that took effect
abbrev pub HandlesRequest : NodeValue → RequestValue → NodeValue → OutboxValue → Type 0
HandlesRequest old r new out =
    RepliesAs (seen_as (session_of r.client old.learner.whole.sessions) r.number) old r new out
