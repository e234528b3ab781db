-- The lemmas that other crates cite: of this folder nothing else is for them.
pub use Rattle.lk_codec.proofs.Appends.{keeps_behind, keeps_same}
pub use Rattle.lk_codec.proofs.Codec.{IsBytes, IsBytes-drop, IsBytes-take, Reads, Took, bind_ok, both_reads}
pub use Rattle.lk_codec.proofs.Codec.{byte_reads, chosen, fitting, made_as, made_reads, one_front, some_is}
pub use Rattle.lk_codec.proofs.Codec.{tested_reads, whole_again, whole_takes}
pub use Rattle.lk_codec.proofs.FieldLaws.{answer_reads, at_most, ballot_reads, client_reads, command_reads}
pub use Rattle.lk_codec.proofs.FieldLaws.{count_reads, is_at_most, is_in, limited_reads, mark_reads, member_reads}
pub use Rattle.lk_codec.proofs.FieldLaws.{members_reads, node_reads, pair_reads, passes, ranged_reads, request_reads}
pub use Rattle.lk_codec.proofs.FieldLaws.{total_reads, vote_reads}
pub use Rattle.lk_codec.proofs.KindLaws.{TakesKinds, bare_takes, kind_takes, no_kind_takes, tagged_reads}
pub use Rattle.lk_codec.proofs.Loop.{ends, goes_on, with_front}
pub use Rattle.lk_codec.proofs.NumberLaws.{eight_reads, four_reads, length-eight, length-four, length-two, sized_reads}
pub use Rattle.lk_codec.proofs.NumberLaws.{two_reads}
pub use Rattle.lk_codec.proofs.Repeats.{counted_reads, many_again, many_takes}
