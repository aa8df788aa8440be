use Rattle.std.proofs.Common.{◌≡◌, ℕ, List, [], refl, sym, subst}
use Rattle.seq_memory.specs.Entries.{Entry}
use Rattle.history_words.specs.TraceView.{TraceView, observed}
use Rattle.history_words.specs.Claim.{claim_of}
use Rattle.history_words.specs.Trace.{submissions, Explains}
use Rattle.log_runs.specs.Explainable.{IsExplainable, SeenAlike, AreSeenAs}
use Rattle.log_pieces.specs.declared.Granularity.{Granularity}
use Rattle.log_pieces.specs.declared.Granularity.TheVariants as sizes
use Rattle.log_pieces.specs.Pieces.{pieces}
use Rattle.log_pieces.specs.InPieces.{in_pieces, cut_log, split_all, IsExplainableIn}
use Rattle.log_pieces.proofs.Explained.{records_in_pieces, all_entries, explained_in_pieces, clocked_in_pieces, Sized}
use Rattle.log_pieces.proofs.Alike.{alike_in_pieces, by_number, seen_but_n}
use Rattle.log_pieces.proofs.PieceLemmas.{cuts, ActTogether}
use Rattle.log_pieces.proofs.laws.whole_requests_are_right_in_pieces.Goals as goal

in_cut : (sized : Sized) (law : ActTogether) (bytes : ℕ) (t : TraceView) → IsExplainable t → IsExplainable (cut_log bytes t)
in_cut sized law bytes t (u, h, alike, explained, clocked) =
    let x = observed u in
    let p = pieces bytes x in
    let rs = records_in_pieces p u.records h in
    let all = cuts x law bytes in (
      record { base = u.base; size = u.size; block = u.block; records = rs },
      all_entries p (submissions u.records) h,
      record { base = alike.base; size = alike.size; block = alike.block; records = same t u h alike explained bytes },
      explained_in_pieces x p u.records h all sized explained,
      clocked_in_pieces x p u.records h all explained clocked,
    )
  where
    same : (t u : TraceView) (h : List Entry) → SeenAlike t u → Explains (claim_of u h) → (bytes : ℕ)
        → AreSeenAs (split_all (pieces bytes (observed t)) [] t.records) (records_in_pieces (pieces bytes (observed u)) u.records h)
    same t u h alike explained bytes =
        let extent : observed t ≡ observed u = rw (alike.base, alike.size, alike.block) refl in
        let p = pieces bytes (observed u) in
        subst (λ y. AreSeenAs (split_all (pieces bytes y) [] t.records) (records_in_pieces p u.records h)) (sym extent)
        (seen_but_n (split_all p [] t.records) (split_all p [] u.records) (records_in_pieces p u.records h) (alike_in_pieces p t.records u.records alike.records) (by_number (observed u) p u.records h explained))

by_size : (sized : Sized) (law : ActTogether) (size : Granularity) (t : TraceView) → IsExplainable t → IsExplainableIn size t
unfolding in_pieces
by_size sized law sizes.Four t e = in_cut sized law 4 t e
by_size sized law sizes.Eight t e = in_cut sized law 8 t e
by_size sized law sizes.Sixteen t e = in_cut sized law 16 t e
by_size sized law sizes.SixtyFour t e = in_cut sized law 64 t e
by_size sized law sizes.Whole t e = e

pub returns : goal.returns
returns c =
    let law = c.pieces_act_as_their_request.ensures in
    by_size c.only_the_place_changes.ensures.size (record { posted = law.posted; acts = law.acts; still = law.still; replied = law.replied })
