-- The datagrams of the last bundle that came, and what a receive finds in its buffer.
use Rattle.std.specs.Prelude.{◌≡◌, ℕ, List, []}
use Rattle.std.specs.declared.net.socket_addr.SocketAddr.{SocketAddr}
use Rattle.lk_bundle.specs.Bundles.{Bundles, TakesFirst}

-- the datagrams that are left, and where their bundle came from
pub record OpenedValue : Type 0 where
  pub left : List (List ℕ)
  pub from : SocketAddr

-- the first datagram that is left is handed out, with the source of its bundle; of a longer one only that many bytes
pub record HandsOutFirst (limit : ℕ) (old : OpenedValue) (taken : List ℕ) (source : SocketAddr)
    (new : OpenedValue) : Type 0 where
  pub first : TakesFirst limit old.left taken new.left
  pub source_is : source ≡ old.from
  pub kept : new.from ≡ old.from

-- a payload from that source is a bundle, whose first datagram is handed out, and the others are left
pub record OpensBundle (limit : ℕ) (payload : List ℕ) (from : SocketAddr) (taken : List ℕ) (source : SocketAddr)
    (new : OpenedValue) : Type 0 where
  pub datagrams : List (List ℕ)
  pub bundles : Bundles datagrams payload
  pub hands_out : HandsOutFirst limit (record { left = datagrams; from = from }) taken source new

-- what came stays in the buffer, with its length and its source, and nothing is left
pub record LeavesPayload (end : ℕ) (from : SocketAddr) (old new : List ℕ) (came : ℕ × SocketAddr)
    (after : OpenedValue) : Type 0 where
  pub is : came ≡ (end, from)
  pub buffer : new ≡ old
  pub none : after.left ≡ []
