-- The lemmas that other crates cite: of this folder nothing else is for them.
pub use Rattle.lk_leader.proofs.LedTermLaws.{proposes_allowed, proposes_asked, majority_rests, accepted_by, begun_leads}
pub use Rattle.lk_leader.proofs.LedTermLaws.{later_leads, heard_leads, proposed_leads, majority_leads}
