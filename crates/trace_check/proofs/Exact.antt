-- A report with a difference is that of no run.
use Rattle.std.proofs.Common.{◌≡◌, ℕ, suc, ◌+◌, ◌⊎◌, Bool, List, [], ◌∷◌, ◌++◌, length, drop, Option, Some, Ok, Err, refl, sym, ap, subst, ◌∙◌, inl, inr, arith}
use Rattle.std.proofs.Common.{append_assoc, append-nil}
use Rattle.std.proofs.lemmas.List.{append_cancel_left}
use Rattle.its_plain.specs.Plain.{Plain}
use Rattle.its_plain.specs.Answer.{answer}
use Rattle.its_plain.specs.History.{after}
use Rattle.its_plain.specs.Regions.{savable}
use Rattle.its_plain.specs.Runs.{Leg, IsLegRun, IsPartOfLegRun}
use Rattle.its_plain.specs.Saved.{IsSavable, moved}
use Rattle.its_plain.specs.declared.call.Call.{Call}
use Rattle.its_plain.specs.declared.call.Entry.{Entry}
use Rattle.its_history.specs.Histories.{Seat, history_lines, entry_line}
use Rattle.its_history.specs.Reports.{ended, reported, copies_first, moved_end, moved_leg}
use Rattle.its_history.specs.Texts.{answered_text}
use Rattle.its_history.specs.declared.trace.End.{End}
use Rattle.its_history.specs.declared.trace.End.TheVariants.{Done}
use Rattle.its_history.specs.declared.trace.EntryLine.{EntryLine}
use Rattle.its_history.specs.declared.trace.Leg.{Leg as LegLines}
use Rattle.trace_check.specs.Cursors.{Progress, threads_of, call_of, opened, taken, more}
use Rattle.trace_check.specs.Differences.{seat, lines, MayFollow, EntryDiffers, EndsEarly, PendingDiffers, LinesDiffer, DiffersFrom}
use Rattle.trace_check.specs.Differences.{pending_texts, CannotMigrate, EndDiffers}
use Rattle.trace_check.specs.Verdicts.{IsReportOfRun}
use Rattle.trace_check.specs.declared.verdict.Difference.{Difference}
use Rattle.trace_check.proofs.Lists.{head_is, tail_is, legal_front, legal_reply}
use Rattle.trace_check.proofs.Parts.{part_front, whole_part, leg_over}
use Rattle.trace_check.proofs.Going.{IsAt, IsSettled, at_first, at_opened, opened_settled, at_taken, settled_settled}
use Rattle.trace_check.proofs.Following.{HasNext, has_next}

same_thread : (m n number : ℕ) → ◌≡◌ {A = Seat} (number, suc m) (number, suc n) → m ≡ n
same_thread m n number e = (let next : suc m ≡ suc n = ap (λ (s : Seat). s.1) e in omega arith)

same_call : (c d : Call) → Some c ≡ Some d → c ≡ d
same_call c d e = cc e

same_end : (e f : End) → Some e ≡ Some f → e ≡ f
same_end e f same = cc same

module _ (first : Plain) (leg : Leg) where
  abbrev seats : ℕ → Seat
  seats pass = seat leg pass

  part_of : (h g : List Entry) → IsPartOfLegRun first leg (h ++ g) → IsPartOfLegRun first leg h
  part_of h g p = record { legal = legal_front first h g p.legal; calls = part_front 1 leg h g p.calls }

  pub run_part : (h : List Entry) → IsLegRun first leg h → IsPartOfLegRun first leg h
  run_part h r = record { legal = r.legal; calls = whole_part 1 leg h r.calls }

  -- ---- one entry of a thread alone may follow

  same_entry : (pre : List Entry) (p : Progress) → IsAt leg pre p → IsSettled p → (x y : Entry) → MayFollow first leg pre x → MayFollow first leg pre y
      → seat leg y.pass ≡ seat leg x.pass → y ≡ x
  same_entry pre p a settled x y mx my same =
      let n : HasNext leg pre p a x = has_next leg pre p a settled x mx.calls in
      let m : HasNext leg pre p a y = has_next leg pre p a settled y my.calls in
      let places : (p.number, suc m.thread) ≡ (p.number, suc n.thread) = sym m.seat_is ∙ (same ∙ n.seat_is) in
      let thread : m.thread ≡ n.thread = same_thread m.thread n.thread p.number places in
      let pass : y.pass ≡ x.pass = m.pass ∙ (ap (λ k. suc a.base + k) thread ∙ sym n.pass) in
      let call : y.call ≡ x.call = same_call y.call x.call (sym m.call ∙ (ap (call_of (threads_of p.phases) p.answered) thread ∙ n.call)) in
      let reply : y.reply ≡ x.reply = legal_reply first pre y [] my.legal
      ∙ (ap (λ c. (answer (after first pre) c).0) call ∙ sym (legal_reply first pre x [] mx.legal)) in
      λ d. record { pass = pass d; call = call d; reply = reply d }

  -- ---- a history of a part of the leg says how far its calls are answered

  pub record Reaches (h : List Entry) : Type 0 where
    pub progress : Progress
    pub now : IsAt leg h progress
    pub is_settled : IsSettled progress

  reaches : (pre : List Entry) (p : Progress) → IsAt leg pre p → IsSettled p → (h : List Entry) → IsPartOfLegRun first leg (pre ++ h) → Reaches (pre ++ h)
  reaches pre p a settled [] part = record { progress = p; now = subst (λ (x : List Entry). IsAt leg x p) (sym (append-nil pre)) a; is_settled = settled }
  reaches pre p a settled (x ∷ h) part =
      let one : pre ++ x ∷ h ≡ (pre ++ x ∷ []) ++ h = sym (append_assoc pre (x ∷ []) h) in
      let long : IsPartOfLegRun first leg ((pre ++ x ∷ []) ++ h) = subst (IsPartOfLegRun first leg) one part in
      let n = has_next leg pre p a settled x (part_of (pre ++ x ∷ []) h long).calls in
      subst Reaches (sym one) (reaches (pre ++ x ∷ []) (taken n.thread p) (at_taken leg pre p n.thread x a n.call n.pass)
      (settled_settled p.number p.phases (more p.answered n.thread)) h long)

  reach : (h : List Entry) → IsPartOfLegRun first leg h → Reaches h
  reach h part = reaches [] (opened 1 leg) (at_opened leg [] 1 leg (at_first leg)) (opened_settled 1 leg) h part

  -- one entry of a thread alone may follow
  alone : (h : List Entry) (x y : Entry) → MayFollow first leg h x → MayFollow first leg h y → seat leg y.pass ≡ seat leg x.pass → y ≡ x
  alone h x y mx my same = let r = reach h (part_of h (x ∷ []) mx) in same_entry h r.progress r.now r.is_settled x y mx my same

  -- ---- histories with the same lines

  begins : (pre : List Entry) (n : ℕ) (h g : List Entry) (ls : List EntryLine) → IsPartOfLegRun first leg (pre ++ h) → IsPartOfLegRun first leg (pre ++ g)
      → history_lines seats n g ≡ history_lines seats n h ++ ls
      → (rest : List Entry) × (g ≡ h ++ rest) × (history_lines seats (n + length h) rest ≡ ls)
  begins pre n [] g ls ph pg e = let z : n + 0 ≡ n = omega arith in (g, refl, ap (λ k. history_lines seats k g) z ∙ e)
  begins pre n (x ∷ h) [] ls ph pg e = absurd (cc e)
  begins pre n (x ∷ h) (y ∷ g) ls ph pg e =
      let line : entry_line seats n y ≡ entry_line seats n x = head_is e in
      let same : seat leg y.pass ≡ seat leg x.pass = λ d. ((line d).phase, (line d).thread) in
      let one : (z : Entry) (k : List Entry) → pre ++ z ∷ k ≡ (pre ++ z ∷ []) ++ k = λ z k. sym (append_assoc pre (z ∷ []) k) in
      let long : IsPartOfLegRun first leg ((pre ++ x ∷ []) ++ h) = subst (IsPartOfLegRun first leg) (one x h) ph in
      let mx : MayFollow first leg pre x = part_of (pre ++ x ∷ []) h long in
      let my : MayFollow first leg pre y = part_of (pre ++ y ∷ []) g (subst (IsPartOfLegRun first leg) (one y g) pg) in
      let is : y ≡ x = alone pre x y mx my same in
      let other : IsPartOfLegRun first leg ((pre ++ x ∷ []) ++ g) = subst (IsPartOfLegRun first leg) ((λ d. pre ++ is d ∷ g) ∙ one x g) pg in
      let rest = begins (pre ++ x ∷ []) (suc n) h g ls long other (tail_is e) in
      let k : n + length (x ∷ h) ≡ suc n + length h = omega arith in
      (rest.0, (λ d. is d ∷ rest.1 d), ap (λ j. history_lines seats j rest.0) k ∙ rest.2)

  -- a run whose lines begin as those of a part of the leg begins as that part
  pub run_begins : (h g : List Entry) (ls : List EntryLine) → IsPartOfLegRun first leg h → IsPartOfLegRun first leg g → lines leg g ≡ lines leg h ++ ls
      → (rest : List Entry) × (g ≡ h ++ rest) × (history_lines seats (length h) rest ≡ ls)
  run_begins h g ls ph pg e =
      let r = begins [] 0 h g ls ph pg e in
      let z : 0 + length h ≡ length h = omega arith in
      (r.0, r.1, ap (λ k. history_lines seats k r.0) (sym z) ∙ r.2)

  pub run_same : (h g : List Entry) → IsPartOfLegRun first leg h → IsPartOfLegRun first leg g → lines leg g ≡ lines leg h → g ≡ h
  run_same h g ph pg e =
      let r = run_begins h g [] ph pg (e ∙ sym (append-nil (lines leg h))) in
      r.1 ∙ (ap (λ (x : List Entry). h ++ x) (none (length h) r.0 r.2) ∙ append-nil h)
    where
      none : (n : ℕ) (rest : List Entry) → history_lines seats n rest ≡ [] → rest ≡ []
      none n [] e = refl
      none n (x ∷ rest) e = absurd (cc e)

  -- ---- no run has the lines of a difference

  pub record FollowsAs (h : List Entry) (line : EntryLine) : Type 0 where
    pub entry : Entry
    pub may : MayFollow first leg h entry
    pub line_is : entry_line seats (length h) entry ≡ line

  follows_as : (h g : List Entry) (line : EntryLine) (later : List EntryLine) → IsPartOfLegRun first leg h → IsPartOfLegRun first leg g
      → lines leg g ≡ lines leg h ++ line ∷ later → FollowsAs h line
  follows_as h g line later ph pg same = (let r = run_begins h g (line ∷ later) ph pg same in one r.0 r.1 r.2)
    where
      one : (rest : List Entry) → g ≡ h ++ rest → history_lines seats (length h) rest ≡ line ∷ later → FollowsAs h line
      one [] is e = absurd (cc e)
      one (x ∷ rest) is e = record {
        entry = x;
        may = part_of (h ++ x ∷ []) rest (subst (IsPartOfLegRun first leg) (is ∙ sym (append_assoc h (x ∷ []) rest)) pg);
        line_is = head_is e;
      }

  entry_exact : (told : LegLines) (d : Difference) (g : List Entry) → EntryDiffers first leg told d → IsLegRun first leg g → told.entries ≡ lines leg g → ⊥
  entry_exact told d g w run same =
      let f = follows_as w.history g w.line w.later w.is_part (run_part g run) (sym same ∙ w.entries) in
      let here : seat leg f.entry.pass ≡ (w.line.phase, w.line.thread) = λ i. ((f.line_is i).phase, (f.line_is i).thread) in
      elim w.differs [
        | inl o ↦
            let is : f.entry ≡ o.entry = alone w.history o.entry f.entry o.next f.may (here ∙ sym o.same_thread) in
            o.other_text ((λ i. (sym f.line_is i).text) ∙ (λ i. answered_text (is i).call (is i).reply))
        | inr n ↦ n.none f.entry here f.may
      ]

  over : (g h : List Entry) (e : Entry) → IsLegRun first leg g → g ≡ h → MayFollow first leg h e → ⊥
  over g h e run same may =
      let none : e ∷ [] ≡ [] = leg_over 1 leg g (e ∷ []) run.calls (subst (λ (x : List Entry). IsPartOfLegRun first leg (x ++ e ∷ [])) (sym same) may).calls in
      absurd (cc none)

  early_exact : (told : LegLines) (d : Difference) (g : List Entry) → EndsEarly first leg told d → IsLegRun first leg g → told.entries ≡ lines leg g → ⊥
  early_exact told d g w run same = over g w.history w.entry run (run_same w.history g w.is_part (run_part g run) (sym same ∙ w.entries)) w.next

  pending_exact : (told : LegLines) (d : Difference) (g : List Entry) → PendingDiffers first leg told d → IsLegRun first leg g → told.entries ≡ lines leg g
      → told.pending ≡ pending_texts (after first g) → ⊥
  pending_exact told d g w run same pending =
      let is : g ≡ w.history = run_same w.history g (run_part w.history w.is_run) (run_part g run) (sym same ∙ w.entries) in
      let texts : w.before ++ w.said_text ∷ w.said_later ≡ w.before ++ w.is_text ∷ w.is_later = sym w.pending_said
      ∙ (pending ∙ (ap (λ (h : List Entry). pending_texts (after first h)) is ∙ w.pending_is)) in
      w.differs (head_is (append_cancel_left w.before (w.said_text ∷ w.said_later) (w.is_text ∷ w.is_later) texts))

  pub lines_exact : (told : LegLines) (d : Difference) (g : List Entry) (end : Option End) → LinesDiffer first leg told d → IsLegRun first leg g
      → told ≡ ended first leg g end → ⊥
  lines_exact told d g end w run same =
      let entries : told.entries ≡ lines leg g = λ i. (same i).entries in
      elim w [
        | inl e ↦ entry_exact told d g e run entries
        | inr v ↦ elim v [ inl e ↦ early_exact told d g e run entries | inr p ↦ pending_exact told d g p run entries (λ i. (same i).pending) ]
      ]

  pub same_history : (told : LegLines) (h g : List Entry) (end last : Option End) → IsLegRun first leg h → IsLegRun first leg g → told ≡ ended first leg h end
      → told ≡ ended first leg g last → g ≡ h
  same_history told h g end last hr gr he ge = run_same h g (run_part h hr) (run_part g gr) (λ i. ((sym ge ∙ he) i).entries)

  fault_exact : (copies : List Bool) (told : LegLines) (d : Difference) (g : List Entry) → CannotMigrate first leg copies told d → IsLegRun first leg g
      → IsSavable (after first g) → told ≡ moved_leg first leg copies g → ⊥
  fault_exact copies told d g w run can same =
      let end : Option End = Some (moved_end (copies_first copies) (after first g)) in
      let is : g ≡ w.history = same_history told w.history g (Some w.end) end w.is_run run w.right same in
      let both : Ok tt ≡ Err w.fault = sym can ∙ (ap (λ (h : List Entry). savable (after first h)) is ∙ w.not_savable) in
      absurd (cc both)

  other_exact : (copies : List Bool) (told : LegLines) (d : Difference) (g : List Entry) → EndDiffers first leg copies told d → IsLegRun first leg g
      → told ≡ moved_leg first leg copies g → ⊥
  other_exact copies told d g w run same =
      let ends : List Entry → End = λ h. moved_end (copies_first copies) (after first h) in
      let is : g ≡ w.history = same_history told w.history g (Some w.end) (Some (ends g)) w.is_run run w.right same in
      let both : Some w.end ≡ Some (ends g) = λ i. ((sym w.right ∙ same) i).end in
      w.differs (same_end w.end (ends g) both ∙ ap ends is)

  pub end_exact : (copies : List Bool) (told : LegLines) (d : Difference) (g : List Entry)
      → CannotMigrate first leg copies told d ⊎ EndDiffers first leg copies told d → IsLegRun first leg g
      → IsSavable (after first g) → told ≡ moved_leg first leg copies g → ⊥
  end_exact copies told d g w run can same =
      elim w [ inl f ↦ fault_exact copies told d g f run can same | inr o ↦ other_exact copies told d g o run same ]

-- ---- legs

pub exact_from : (n : ℕ) (first : Plain) (legs : List Leg) (copies : List Bool) (told : List LegLines) (d : Difference)
    → DiffersFrom n first legs copies told d → IsReportOfRun first legs copies told → ⊥
exact_from n first [] copies told d w r = w
exact_from n first (leg ∷ legs) copies [] d w r = absurd w
exact_from n first (leg ∷ []) copies (t ∷ told) d w r =
    let run = r.is_run in
    let one : t ∷ told ≡ ended first leg run.0 (Some Done) ∷ [] = r.told_is ∙ ap (reported first (leg ∷ []) copies) run.1 in
    lines_exact first leg t d run.0 (Some Done) w.lines run.2 (head_is one)
exact_from n first (leg ∷ (next ∷ legs)) copies (t ∷ told) d w r =
    let run = r.is_run in
    let whole : t ∷ told ≡ moved_leg first leg copies run.0 ∷ reported (moved (after first run.0)) (next ∷ legs) (drop 1 copies) run.1 = r.told_is
    ∙ ap (reported first (leg ∷ (next ∷ legs)) copies) run.2 in
    let here : t ≡ moved_leg first leg copies run.0 = head_is whole in
    let end : List Entry → Option End = λ h. Some (moved_end (copies_first copies) (after first h)) in
    elim w [
      | inl h ↦ lines_exact first leg t d run.0 (end run.0) h.lines run.3 here
      | inr v ↦
          elim v [
            | inl m ↦ end_exact first leg copies t d run.0 m.end run.3 run.4 here
            | inr x ↦
                let same : run.0 ≡ x.0 = same_history first leg t x.0 run.0 (end x.0) (end run.0) x.1.is_run run.3 x.1.right here in
                let later : IsReportOfRun (moved (after first run.0)) (next ∷ legs) (drop 1 copies) told = record {
                  histories = run.1;
                  is_run = run.5;
                  told_is = tail_is whole;
                } in
                exact_from (n + 1) (moved (after first x.0)) (next ∷ legs) (drop 1 copies) told d x.2
                (subst (λ (h : List Entry). IsReportOfRun (moved (after first h)) (next ∷ legs) (drop 1 copies) told) same later)
          ]
    ]
