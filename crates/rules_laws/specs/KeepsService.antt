-- Joining and leaving keep the service and the event queues in range. Assumes nothing.
use Rattle.std.specs.Prelude.{◌≡◌, ◌≢◌, Bool, not, cond, ◌||◌, ℕ, ◌+◌, ◌<◌, eqb}
use Rattle.std.proofs.Math.Path.{refl}
use Rattle.std.proofs.Common.{sym, ◌∙◌}
use Rattle.std.proofs.Math.Bool.{true, false}
use mathlib.Core.List.{List, [], ◌∷◌, map}
use native.Mathlib.Omega.{arith}
use Rattle.std.proofs.Math.ListN.{length-map}
use Rattle.std.proofs.Math.Dec.{T, ltb}
use Rattle.rules.specs.Limits.{top_term}
use Rattle.rules.specs.State.{Mastership, Desk}
use Rattle.rules.specs.Queues.{push, first, rest, empty, room, room_all, has, remove}
use Rattle.rules.specs.Ids.{named}
use Rattle.rules.specs.Rules.{posted, unposted, vacant, joined, join_rule, hands_over, left, leave_rule}
use Rattle.rules_laws.specs.All.{All}
use Rattle.rules_laws.specs.InRange.{Distinct, Within, QueueFits, BackupFits, MastershipFits, ServiceFits, masterless, ruled, DeskFits}
use Rattle.rules_laws.specs.Tests.{◌&◌, is-neither, as-is, is_lt, is_ne, is_eq, is-absent}
use Rattle.rules_laws.specs.Lists.{all-with, all_push, queue-push, distinct_push, all_remove, distinct_remove}
use Rattle.rules_laws.specs.Answered.{Passes}

module _ (count : ℕ) where
  -- ---- posting

  events-posted : (m : Mastership) → MastershipFits count m → (qs : List (List Mastership)) → T (room_all qs) → All (QueueFits (MastershipFits count)) qs
      → All (QueueFits (MastershipFits count)) (map (push m) qs)
  unfolding room_all
  events-posted m k [] r h = tt
  events-posted m k (q ∷ qs) r h =
      let t = (as-is (room q) & as-is (room_all qs)).to r in
      (queue-push (MastershipFits count) m q k t.0 h.0, events-posted m k qs t.1 h.1)

  posted-fits : (m : Mastership) (d : Desk) → MastershipFits count m → T (room_all d.events) → DeskFits count d → DeskFits count (posted m d)
  unfolding posted
  posted-fits m d k r h = record {
    size = length-map d.events (push m) ∙ h.size;
    service = ruled k;
    events = events-posted m k d.events r h.events;
  }

  -- ---- 1 Join

  joined-fits : (n : ℕ) (m : Mastership) → Within 1 count n → ServiceFits count m → T (vacant m || not (named n m)) → T (not (vacant m) || ltb m.term top_term)
      → MastershipFits count (joined n m)
  unfolding vacant joined named
  joined-fits n m node h = go (eqb m.master 0) refl
    where
      ruling : ServiceFits count m → m.master ≢ 0 → MastershipFits count m
      ruling (masterless a b c) z = absurd (z a)
      ruling (ruled k) z = k

      go : (b : Bool) → eqb m.master 0 ≡ b → T (b || not (named n m)) → T (not b || ltb m.term top_term)
          → MastershipFits count (cond b (record { term = m.term + 1; master = n; backups = [] }) (record { term = m.term; master = m.master; backups = push n m.backups }))
      go true e a t = record {
        term = let k = (is_lt m.term top_term).to t in record { lower = omega arith; upper = omega arith };
        master = node;
        backups = tt;
        distinct = tt;
      }
      go false e a t =
          let k = ruling h ((is_ne m.master 0).to (rw e tt)) in
          let new = (is-neither (eqb m.master n) (has n m.backups) (is_ne m.master n) (is-absent n m.backups)).to a in
          record {
            term = k.term;
            master = k.master;
            backups = all_push (BackupFits count m.master) n m.backups (record { node = node; other = λ z. new.0 (sym z) }) k.backups;
            distinct = distinct_push n m.backups new.1 k.distinct;
          }

  pub join-fits : (n : ℕ) (d : Desk) → Within 1 count n → DeskFits count d → Passes (join_rule n) d → DeskFits count ((join_rule n).effect d)
  unfolding join_rule
  join-fits n d node h p = posted-fits (joined n d.service) d (joined-fits n d.service node h.service p.allowed p.term) p.queues h

  -- ---- 2 Leave

  -- The first backup takes over: the others are its backups.
  heir-fits : (t master : ℕ) (bs : List ℕ) → T (not (empty bs)) → t < top_term → All (BackupFits count master) bs → Distinct bs
      → MastershipFits count (record { term = t + 1; master = first 0 bs; backups = rest bs })
  unfolding first rest empty
  heir-fits t master [] some below a d = absurd some
  heir-fits t master (b ∷ bs) some below a d = record {
    term = record { lower = omega arith; upper = omega arith };
    master = a.0.node;
    backups = all-with (λ x k z. record { node = k.node; other = z }) bs a.1 d.0;
    distinct = d.1;
  }

  handed-fits : (n : ℕ) (m : Mastership) → T (hands_over n m) → m.term < top_term → ServiceFits count m
      → MastershipFits count (record { term = m.term + 1; master = first 0 m.backups; backups = rest m.backups })
  unfolding hands_over empty
  handed-fits n m t below h = go ((is_eq m.master n & as-is (not (empty m.backups))).to t).1 h
    where
      go : T (not (empty m.backups)) → ServiceFits count m → MastershipFits count (record { term = m.term + 1; master = first 0 m.backups; backups = rest m.backups })
      go some (masterless a b c) = absurd (rw b at some)
      go some (ruled k) = heir-fits m.term m.master m.backups some below k.backups k.distinct

  -- Master or backup, n is gone, and nobody hears of it.
  gone-fits : (n : ℕ) (m : Mastership) → ServiceFits count m
      → ServiceFits count (cond (eqb m.master n) (record { term = m.term; master = 0; backups = [] }) (record { term = m.term; master = m.master; backups = remove n m.backups }))
  unfolding remove
  gone-fits n m h = go (eqb m.master n) h
    where
      go : (b : Bool) → ServiceFits count m
          → ServiceFits count (cond b (record { term = m.term; master = 0; backups = [] }) (record { term = m.term; master = m.master; backups = remove n m.backups }))
      go true (masterless a b c) = masterless refl refl c
      go true (ruled k) = masterless refl refl k.term.upper
      go false (masterless a b c) = masterless a (rw b) c
      go false (ruled k) = ruled (record {
        term = k.term;
        master = k.master;
        backups = all_remove n (BackupFits count m.master) m.backups k.backups;
        distinct = distinct_remove n m.backups k.distinct;
      })

  pub leave_fits : (n : ℕ) (d : Desk) → DeskFits count d → Passes (leave_rule n) d → DeskFits count ((leave_rule n).effect d)
  unfolding leave_rule left unposted
  leave_fits n d h p = go (hands_over n d.service) refl p.term p.queues
    where
      go : (b : Bool) → hands_over n d.service ≡ b → T (not b || ltb d.service.term top_term) → T (not b || room_all d.events) → DeskFits count ((leave_rule n).effect d)
      go true e t q = rw e (posted-fits _ d (handed-fits n d.service (rw e tt) ((is_lt d.service.term top_term).to t) h.service) q h)
      go false e t q = rw e (record { size = h.size; service = gone-fits n d.service h.service; events = h.events })
