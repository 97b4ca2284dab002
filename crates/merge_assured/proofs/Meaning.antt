-- What the verdict `same` on two lists of bytes means. Assumes nothing.
use Rattle.std.specs.Prelude.{◌≡◌, ℕ, length, Ok}
use Rattle.std.proofs.Common.{sym, ap, ◌∙◌, arith}
use mathlib.Core.List.{List}
use Rattle.run_lists.specs.EventList.{node_count, record_count, records}
use Rattle.run_lists.specs.Good.{records-length}
use Rattle.run.specs.Refusing.{ran-short}
use Rattle.run_exchange.specs.Exchanges.{swaps-length}
use Rattle.run_exchange.proofs.Audit.{audit}
use Rattle.merge_verdict.specs.Verdict.{Exchanges, Independent}
use Rattle.merge_verdict.proofs.Exact.{exact}
use Rattle.merge_compare.specs.declared.Verdict.{Verdict}
use Rattle.merge_compare.specs.Compare.{same}
use Rattle.merge_compare.specs.Compared.{compared}
use Rattle.merge_compare.specs.Refusing.{both-good}
use Rattle.merge_assured.specs.Assured.{Merges, SameMeans, Assured, SameAssures, SameShort}
use Rattle.merge_assured.proofs.Keeps.{keeps}
use Rattle.merge_assured.specs.Meaning.{comparable, compared-as, on-records}

pub same-means : SameMeans
same-means first second = (there, back)
  where
    there : compared first second ≡ Ok same → Merges first second
    there e =
        let c = comparable first second e in
        let x = (exact (node_count first) (records first) (records second)).0 ((on-records first second).0 (compared-as first second e)) in
        record {
          places = x.places;
          remerged = record { accepted = c.one; accepted' = c.other; nodes = sym c.nodes; exchanged = sym x.ends; allowed = x.allowed };
        }

    back : Merges first second → compared first second ≡ Ok same
    back m =
        let r = m.remerged in
        let x : Exchanges (Independent (node_count first)) (records first) (records second) = record { places = m.places; allowed = r.allowed; ends = sym r.exchanged } in
        both-good first second r.accepted r.accepted' (sym r.nodes) ∙ ap (λ (v : Verdict). Ok v) ((on-records first second).1 ((exact (node_count first) (records first) (records second)).1 x))

pub same-assures : SameAssures
same-assures first second out room = (there, λ a. (same-means first second).1 (record { places = a.places; remerged = a.remerged }))
  where
    there : compared first second ≡ Ok same → Assured first second out
    there e =
        let m = (same-means first second).0 e in
        let r = audit first second m.places out m.remerged room in
        record { places = m.places; remerged = m.remerged; run = r; answers = keeps first second m.places out m.remerged r room }

-- Lists that are the same have as many records.
same_size : (first second : List ℕ) → compared first second ≡ Ok same → record_count second ≡ record_count first
same_size first second e =
    let m = (same-means first second).0 e in
    sym (records-length second) ∙ ap length m.remerged.exchanged ∙ swaps-length m.places (records first) ∙ records-length first

pub same-short : SameShort
same-short first second out short e =
    let c = comparable first second e in
    let n = same_size first second e in
    (ran-short first out c.one short, ran-short second out c.other (omega arith))
