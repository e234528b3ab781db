-- The bytes so far are pieces.
use Rattle.std.proofs.Common.{◌≡◌, ℕ, ◌+◌, ◌≤◌, ◌++◌, List, length}
use Rattle.std.specs.List.{flat_map, AllByRecursion}
use Rattle.lk_bundle.specs.Bundles.{piece, IsPiece}
use Rattle.lk_bundle.proofs.pieces.count_pieces.Given as goal

abbrev pub invariant-pieces : goal.invariant-pieces
invariant-pieces l = record {
  counted : l.count + length l.rest ≤ length l.bytes;
  so_far : (front : List (List ℕ)) × (length front ≡ l.count) × AllByRecursion IsPiece front
      × (l.bytes ≡ flat_map piece front ++ l.rest);
}

abbrev pub decreases-pieces : goal.decreases-pieces
decreases-pieces l = length l.rest
