-- Pages laid over guest memory: which bytes are read where, and what laying leaves of the windows.
use Rattle.std.proofs.Common.{◌≡◌, ◌⊎◌, ℕ, zero, suc, ◌+◌, ◌-◌, ◌/◌, ◌%◌, ◌<◌, ◌≤◌, Bool, true, cond, List, [], ◌∷◌, ◌++◌, length, take, drop, get_or, set, map}
use Rattle.std.proofs.Common.{Option, Some, None, refl, sym, ap, ◌∙◌, inl, inr, arith, length-append, length-drop}
use Rattle.std.proofs.lemmas.Bool.{cases_lt}
use Rattle.std.proofs.lemmas.List.{ext_get_or, length-take-le, get_or-take, get_or-drop, get_or_append_left, get_or-append_right, get_or-map, length-map}
use Rattle.guest_windows.specs.Windows.{Window, has, inside, put, extent, write_at}
use Rattle.guest_windows.specs.Fields.{window, windows, place_from}
use Rattle.guest_windows.specs.Pages.{rows, byte_in, bytes_of}
use Rattle.guest_windows.specs.declared.frame.Frame.{Frame}
use Rattle.guest_windows.specs.Drafts.{Laid, first_of, own_by, byte_over, laid_bytes, laid_window, laid_from, laid}
use Rattle.guest_windows.proofs.Laws.{has-extent, inside-extents}
use Rattle.guest_windows.proofs.Sparse.{length-bytes, byte_of}
use Rattle.guest_windows.proofs.Fitting.{fits_frame}
use Rattle.guest_windows.proofs.Frames.{at_frame}
use Rattle.guest_windows.proofs.Places.{found}

-- ---- bytes

pub length-laid : (own : ℕ → Option (List ℕ)) (i : ℕ) (xs : List ℕ) → length (laid_bytes own i xs) ≡ length xs
length-laid own i [] = refl
length-laid own i (x ∷ xs) = ap suc (length-laid own (suc i) xs)

get_or-laid : (own : ℕ → Option (List ℕ)) (s i : ℕ) (xs : List ℕ) → i < length xs
    → get_or (laid_bytes own s xs) i 0 ≡ byte_over (own ((s + i) / 65536)) ((s + i) % 65536) (get_or xs i 0)
get_or-laid own s i [] lt = absurd (omega arith)
get_or-laid own s zero (x ∷ xs) lt = let e : s ≡ s + 0 = omega arith in ap (λ (n : ℕ). byte_over (own (n / 65536)) (n % 65536) x) e
get_or-laid own s (suc i) (x ∷ xs) lt =
    let e : suc s + i ≡ s + suc i = omega arith in
    get_or-laid own (suc s) i xs (omega arith) ∙ ap (λ (n : ℕ). byte_over (own (n / 65536)) (n % 65536) (get_or xs i 0)) e

pub same_laid : (own other : ℕ → Option (List ℕ)) → ((q : ℕ) → own q ≡ other q) → (i : ℕ) (xs : List ℕ) → laid_bytes own i xs ≡ laid_bytes other i xs
same_laid own other same i [] = refl
same_laid own other same i (x ∷ xs) =
    ap (λ (o : Option (List ℕ)). byte_over o (i % 65536) x ∷ laid_bytes own (suc i) xs) (same (i / 65536))
    ∙ ap (λ (bs : List ℕ). byte_over (other (i / 65536)) (i % 65536) x ∷ bs) (same_laid own other same (suc i) xs)

bare_bytes : (own : ℕ → Option (List ℕ)) → ((q : ℕ) → own q ≡ None) → (i : ℕ) (xs : List ℕ) → laid_bytes own i xs ≡ xs
bare_bytes own none i [] = refl
bare_bytes own none i (x ∷ xs) =
    ap (λ (o : Option (List ℕ)). byte_over o (i % 65536) x ∷ laid_bytes own (suc i) xs) (none (i / 65536))
    ∙ ap (λ (bs : List ℕ). x ∷ bs) (bare_bytes own none (suc i) xs)

over_first : (a b : Option (List ℕ)) (k x : ℕ) → byte_over (first_of a b) k x ≡ byte_over a k (byte_over b k x)
over_first None b k x = refl
over_first (Some row) b k x = refl

twice_bytes : (own under all : ℕ → Option (List ℕ)) → ((q : ℕ) → all q ≡ first_of (own q) (under q)) → (i : ℕ) (xs : List ℕ)
    → laid_bytes own i (laid_bytes under i xs) ≡ laid_bytes all i xs
twice_bytes own under all both i [] = refl
twice_bytes own under all both i (x ∷ xs) =
    let byte : byte_over (own (i / 65536)) (i % 65536) (byte_over (under (i / 65536)) (i % 65536) x) ≡ byte_over (all (i / 65536)) (i % 65536) x =
    sym (over_first (own (i / 65536)) (under (i / 65536)) (i % 65536) x)
    ∙ ap (λ (o : Option (List ℕ)). byte_over o (i % 65536) x) (sym (both (i / 65536))) in
    ap (λ (y : ℕ). y ∷ laid_bytes own (suc i) (laid_bytes under (suc i) xs)) byte
    ∙ ap (λ (bs : List ℕ). byte_over (all (i / 65536)) (i % 65536) x ∷ bs) (twice_bytes own under all both (suc i) xs)

-- ---- windows

pub bare : (own : ℕ → ℕ → Option (List ℕ)) → ((k q : ℕ) → own k q ≡ None) → (k : ℕ) (ws : List Window) → laid_from own k ws ≡ ws
bare own none k [] = refl
bare own none k (w ∷ ws) =
    ap (λ (bs : List ℕ). record { base = w.base; bytes = bs } ∷ laid_from own (suc k) ws) (bare_bytes (own k) (none k) 0 w.bytes)
    ∙ ap (λ (vs : List Window). w ∷ vs) (bare own none (suc k) ws)

same_extent : (own : ℕ → Option (List ℕ)) (w : Window) → extent (laid_window own w) ≡ extent w
same_extent own w = ap (λ (n : ℕ). (w.base, n)) (length-laid own 0 w.bytes)

pub extents_laid : (own : ℕ → ℕ → Option (List ℕ)) (k : ℕ) (ws : List Window) → map extent (laid_from own k ws) ≡ map extent ws
extents_laid own k [] = refl
extents_laid own k (w ∷ ws) =
    ap (λ (e : ℕ × ℕ). e ∷ map extent (laid_from own (suc k) ws)) (same_extent (own k) w)
    ∙ ap (λ (es : List (ℕ × ℕ)). extent w ∷ es) (extents_laid own (suc k) ws)

-- the same stretches are inside
pub inside_laid : (cs : List Laid) (ws : List Window) (a n : ℕ) → inside (laid cs ws) a n ≡ inside ws a n
inside_laid cs ws a n = inside-extents (laid cs ws) ws a n (extents_laid (own_by cs) 0 ws)

pub place_laid : (own : ℕ → ℕ → Option (List ℕ)) (k i : ℕ) (ws : List Window) (a n : ℕ) → place_from i (laid_from own k ws) a n ≡ place_from i ws a n
place_laid own k i [] a n = refl
place_laid own k i (w ∷ ws) a n =
    ap (λ (b : Bool). cond b (Some i) (place_from (i + 1) (laid_from own (suc k) ws) a n)) (has-extent (laid_window (own k) w) w a n (same_extent (own k) w))
    ∙ ap (λ (o : Option ℕ). cond (has w a n) (Some i) o) (place_laid own (suc k) (i + 1) ws a n)

pub length-laid_from : (own : ℕ → ℕ → Option (List ℕ)) (k : ℕ) (ws : List Window) → length (laid_from own k ws) ≡ length ws
length-laid_from own k [] = refl
length-laid_from own k (w ∷ ws) = ap suc (length-laid_from own (suc k) ws)

pub get_or-laid_from : (own : ℕ → ℕ → Option (List ℕ)) (k j : ℕ) (ws : List Window) (d e : Window) → j < length ws
    → get_or (laid_from own k ws) j d ≡ laid_window (own (k + j)) (get_or ws j e)
get_or-laid_from own k j [] d e lt = absurd (omega arith)
get_or-laid_from own k zero (w ∷ ws) d e lt = let same : k ≡ k + 0 = omega arith in ap (λ (n : ℕ). laid_window (own n) w) same
get_or-laid_from own k (suc j) (w ∷ ws) d e lt =
    let same : suc k + j ≡ k + suc j = omega arith in
    get_or-laid_from own (suc k) j ws d e (omega arith) ∙ ap (λ (n : ℕ). laid_window (own n) (get_or ws j e)) same

same_window : (own other : ℕ → Option (List ℕ)) (w : Window) → ((q : ℕ) → own q ≡ other q) → laid_window own w ≡ laid_window other w
same_window own other w same = ap (λ (bs : List ℕ). record { base = w.base; bytes = bs }) (same_laid own other same 0 w.bytes)

same_from : (own other : ℕ → ℕ → Option (List ℕ)) (k : ℕ) (ws : List Window) → ((n q : ℕ) → k ≤ n → other n q ≡ own n q)
    → laid_from other k ws ≡ laid_from own k ws
same_from own other k [] same = refl
same_from own other k (w ∷ ws) same =
    ap (λ (v : Window). v ∷ laid_from other (suc k) ws) (same_window (other k) (own k) w (λ q. same k q (omega arith)))
    ∙ ap (λ (vs : List Window). laid_window (own k) w ∷ vs) (same_from own other (suc k) ws (λ n q le. same n q (omega (arith, le))))

-- one window laid anew
pub set-laid : (own other : ℕ → ℕ → Option (List ℕ)) (k j : ℕ) (ws : List Window) (d : Window) → j < length ws
    → ((n q : ℕ) → (n ≡ k + j → ⊥) → other n q ≡ own n q)
    → laid_from other k ws ≡ set (laid_from own k ws) j (laid_window (other (k + j)) (get_or ws j d))
set-laid own other k j [] d lt same = absurd (omega arith)
set-laid own other k zero (w ∷ ws) d lt same =
    let e : k ≡ k + 0 = omega arith in
    ap (λ (v : Window). v ∷ laid_from other (suc k) ws) (ap (λ (n : ℕ). laid_window (other n) w) e)
    ∙ ap (λ (vs : List Window). laid_window (other (k + 0)) w ∷ vs)
    (same_from own other (suc k) ws (λ n q le. same n q (λ is. omega (arith, le, is))))
set-laid own other k (suc j) (w ∷ ws) d lt same =
    let e : suc k + j ≡ k + suc j = omega arith in
    ap (λ (v : Window). v ∷ laid_from other (suc k) ws) (same_window (other k) (own k) w (λ q. same k q (λ is. omega (arith, is))))
    ∙ ap (λ (vs : List Window). laid_window (own k) w ∷ vs)
    (set-laid own other (suc k) j ws d (omega arith) (λ n q not. same n q (λ is. not (omega (arith, is))))
    ∙ ap (λ (n : ℕ). set (laid_from own (suc k) ws) j (laid_window (other n) (get_or ws j d))) e)

pub bare_below : (own : ℕ → ℕ → Option (List ℕ)) (k : ℕ) (ws : List Window) → ((n q : ℕ) → n < k + length ws → own n q ≡ None) → laid_from own k ws ≡ ws
bare_below own k [] none = refl
bare_below own k (w ∷ ws) none =
    ap (λ (bs : List ℕ). record { base = w.base; bytes = bs } ∷ laid_from own (suc k) ws) (bare_bytes (own k) (λ q. none k q (omega arith)) 0 w.bytes)
    ∙ ap (λ (vs : List Window). w ∷ vs) (bare_below own (suc k) ws (λ n q low. none n q (omega (arith, low))))

abbrev none_laid : ℕ → ℕ → Option (List ℕ)
none_laid k q = None

-- pages of one window alone
pub laid_one : (own : ℕ → ℕ → Option (List ℕ)) (j : ℕ) (ws : List Window) (w v : Window) → j < length ws → ((n q : ℕ) → (n ≡ j → ⊥) → own n q ≡ None)
    → get_or ws j w ≡ w → v ≡ laid_window (own j) w → laid_from own 0 ws ≡ set ws j v
laid_one own j ws w v lt none is same_v =
    let e : 0 + j ≡ j = omega arith in
    set-laid none_laid own 0 j ws w lt (λ n q other. none n q (λ same. other (omega (arith, same))))
    ∙ ap (λ (vs : List Window). set vs j (laid_window (own (0 + j)) (get_or ws j w))) (bare none_laid (λ k q. refl) 0 ws)
    ∙ ap (λ (n : ℕ). set ws j (laid_window (own n) (get_or ws j w))) e
    ∙ ap (λ (x : Window). set ws j (laid_window (own j) x)) is ∙ ap (set ws j) (sym same_v)

-- laid over what is laid
pub twice : (own under all : ℕ → ℕ → Option (List ℕ)) → ((k q : ℕ) → all k q ≡ first_of (own k q) (under k q)) → (k : ℕ) (ws : List Window)
    → laid_from own k (laid_from under k ws) ≡ laid_from all k ws
twice own under all both k [] = refl
twice own under all both k (w ∷ ws) =
    ap (λ (bs : List ℕ). record { base = w.base; bytes = bs } ∷ laid_from own (suc k) (laid_from under (suc k) ws))
    (twice_bytes (own k) (under k) (all k) (both k) 0 w.bytes)
    ∙ ap (λ (vs : List Window). laid_window (all k) w ∷ vs) (twice own under all both (suc k) ws)

-- ---- a stretch of a window

spliced : (n : ℕ) (xs ys : List ℕ) (start : ℕ) (bs : List ℕ) → length xs ≡ n → length ys ≡ n → start + length bs ≤ n
    → ((k : ℕ) → k < length bs → get_or ys (start + k) 0 ≡ get_or bs k 0)
    → ((i : ℕ) → i < n → (i < start) ⊎ (start + length bs ≤ i) → get_or ys i 0 ≡ get_or xs i 0)
    → ys ≡ take start xs ++ bs ++ drop (start + length bs) xs
spliced n xs ys start bs total long fits each others =
    let m = length bs in
    let head = take start xs in
    let front = head ++ bs in
    let back = drop (start + m) xs in
    let head-long : length head ≡ start = length-take-le start xs (omega (arith, total, fits)) in
    let front-long : length front ≡ start + m = omega (arith, length-append head bs, head-long) in
    let back-long : length back ≡ n - (start + m) = omega (arith, length-drop (start + m) xs, total) in
    let whole-long : length (front ++ back) ≡ n = omega (arith, length-append front back, front-long, back-long, fits) in
    ext_get_or 0 ys (front ++ back) (long ∙ sym whole-long) (λ i lt.
    let below : i < n = omega (arith, lt, long) in
    elim (cases_lt i (start + m)) [
      | inl in_front ↦
          let left : get_or (front ++ back) i 0 ≡ get_or front i 0 = get_or_append_left front back 0 i (omega (arith, front-long, in_front)) in
          elim (cases_lt i start) [
            | inl in_head ↦
                others i below (inl in_head)
                ∙ sym (left ∙ get_or_append_left head bs 0 i (omega (arith, head-long, in_head)) ∙ get_or-take start xs i 0 in_head)
            | inr past ↦
                let place : start + (i - start) ≡ i = omega arith in
                let inside : i - start < m = omega arith in
                sym (ap (λ (j : ℕ). get_or ys j 0) place) ∙ each (i - start) inside
                ∙ sym (left ∙ get_or-append_right head bs start i 0 head-long past)
          ]
      | inr in_back ↦
          let place : start + m + (i - (start + m)) ≡ i = omega arith in
          others i below (inr in_back)
          ∙ sym (get_or-append_right front back (start + m) i 0 front-long in_back ∙ get_or-drop (start + m) xs (i - (start + m)) 0
          ∙ ap (λ (j : ℕ). get_or xs j 0) place)
    ])

-- the byte at a place of a window, with pages laid over it
abbrev pub byte_at_place : (ℕ → Option (List ℕ)) → Frame → ℕ → ℕ
byte_at_place own f i = byte_over (own (i / 65536)) (i % 65536) (byte_in (rows f.groups.items) i)

length-window : (own : ℕ → Option (List ℕ)) (f : Frame) → length (laid_bytes own 0 (bytes_of f.len (rows f.groups.items))) ≡ f.len
length-window own f = length-laid own 0 (bytes_of f.len (rows f.groups.items)) ∙ length-bytes f.len (rows f.groups.items)

laid_at : (own : ℕ → Option (List ℕ)) (f : Frame) (i : ℕ) → i < f.len
    → get_or (laid_bytes own 0 (bytes_of f.len (rows f.groups.items))) i 0 ≡ byte_at_place own f i
laid_at own f i lt =
    let rs = rows f.groups.items in
    let e : 0 + i ≡ i = omega arith in
    get_or-laid own 0 i (bytes_of f.len rs) (omega (arith, lt, length-bytes f.len rs))
    ∙ ap (λ (n : ℕ). byte_over (own (n / 65536)) (n % 65536) (get_or (bytes_of f.len rs) i 0)) e
    ∙ ap (byte_over (own (i / 65536)) (i % 65536)) (byte_of f.len rs i lt)

-- bytes that were written one by one
pub laid_written : (f : Frame) (before after : ℕ → Option (List ℕ)) (a : ℕ) (bs : List ℕ) → has (window f) a (length bs) ≡ true
    → ((k : ℕ) → k < length bs → byte_at_place after f (a - f.base + k) ≡ get_or bs k 0)
    → ((i : ℕ) → (i < a - f.base) ⊎ (a - f.base + length bs ≤ i) → byte_at_place after f i ≡ byte_at_place before f i)
    → laid_window after (window f) ≡ put (laid_window before (window f)) a bs
laid_written f before after a bs it here others =
    let t = fits_frame f a (length bs) it in
    let above = t.above in let below = t.below in
    let b = bytes_of f.len (rows f.groups.items) in
    ap (λ (xs : List ℕ). record { base = f.base; bytes = xs })
    (spliced f.len (laid_bytes before 0 b) (laid_bytes after 0 b) (a - f.base) bs (length-window before f) (length-window after f) (omega (arith, above, below))
    (λ k lt. laid_at after f (a - f.base + k) (omega (arith, above, below, lt)) ∙ here k lt)
    (λ i lt out. laid_at after f i lt ∙ others i out ∙ sym (laid_at before f i lt)))

-- a window that has the bytes that are laid
pub laid_is : (f g : Frame) (own : ℕ → Option (List ℕ)) → g.base ≡ f.base → g.len ≡ f.len
    → ((i : ℕ) → i < f.len → byte_in (rows g.groups.items) i ≡ byte_at_place own f i)
    → window g ≡ laid_window own (window f)
laid_is f g own base len each =
    let rs = rows g.groups.items in
    ap (λ (b : ℕ). record { base = b; bytes = bytes_of g.len rs }) base
    ∙ ap (λ (xs : List ℕ). record { base = f.base; bytes = xs })
    (ext_get_or 0 (bytes_of g.len rs) (laid_bytes own 0 (bytes_of f.len (rows f.groups.items)))
    (length-bytes g.len rs ∙ len ∙ sym (length-window own f)) (λ i lt.
    let there : i < g.len = omega (arith, lt, length-bytes g.len rs) in
    let here : i < f.len = omega (arith, there, len) in
    byte_of g.len rs i there ∙ each i here ∙ sym (laid_at own f i here)))

-- ---- a write

record LaidAt (fs : List Frame) (own : ℕ → ℕ → Option (List ℕ)) (a n j : ℕ) (f : Frame) : Type 0 where
  inside : j < length (windows fs)
  window_is : get_or (windows fs) j (window f) ≡ window f
  writes : (bs : List ℕ) → length bs ≡ n
      → write_at (laid_from own 0 (windows fs)) a bs ≡ Some (set (laid_from own 0 (windows fs)) j (put (laid_window (own j) (window f)) a bs))

laid_there : (fs : List Frame) (own : ℕ → ℕ → Option (List ℕ)) (a n j : ℕ) (f : Frame) → place_from 0 (windows fs) a n ≡ Some j → f ≡ get_or fs j f
    → LaidAt fs own a n j f
laid_there fs own a n j f e is =
    let ws = windows fs in
    let lw = laid_from own 0 ws in
    let there = (at_frame fs a n j e).inside in
    let inside : j < length ws = omega (arith, there, length-map fs window) in
    let r = found lw 0 a n j (place_laid own 0 0 ws a n ∙ e) in
    let place : r.0 ≡ j = omega (arith, r.1) in
    let same : get_or ws j (window f) ≡ window f = get_or-map window fs j f (window f) there ∙ ap window (sym is) in
    let zero_j : 0 + j ≡ j = omega arith in
    let here : get_or lw j (window f) ≡ laid_window (own j) (window f) =
    get_or-laid_from own 0 j ws (window f) (window f) inside ∙ ap (λ (n : ℕ). laid_window (own n) (get_or ws j (window f))) zero_j
    ∙ ap (laid_window (own j)) same in
    record {
      inside = inside;
      window_is = same;
      writes = λ bs len. r.2.writes (window f) bs len ∙ ap (λ (k : ℕ). Some (set lw k (put (get_or lw k (window f)) a bs))) place
          ∙ ap (λ (v : Window). Some (set lw j (put v a bs))) here;
    }

-- one window written, and no other
pub wrote_window : (fs : List Frame) (f : Frame) (before after : ℕ → ℕ → Option (List ℕ)) (a j : ℕ) (bs : List ℕ)
    → place_from 0 (windows fs) a (length bs) ≡ Some j → f ≡ get_or fs j f
    → laid_window (after j) (window f) ≡ put (laid_window (before j) (window f)) a bs
    → ((k q : ℕ) → (k ≡ j → ⊥) → after k q ≡ before k q)
    → write_at (laid_from before 0 (windows fs)) a bs ≡ Some (laid_from after 0 (windows fs))
wrote_window fs f before after a j bs e is written apart =
    let ws = windows fs in
    let lw = laid_from before 0 ws in
    let t = laid_there fs before a (length bs) j f e is in
    let zero_j : 0 + j ≡ j = omega arith in
    t.writes bs refl ∙ ap (λ (v : Window). Some (set lw j v)) (sym written)
    ∙ ap (λ (v : Window). Some (set lw j (laid_window (after j) v))) (sym t.window_is)
    ∙ ap (λ (n : ℕ). Some (set lw j (laid_window (after n) (get_or ws j (window f))))) (sym zero_j)
    ∙ ap Some (sym (set-laid before after 0 j ws (window f) t.inside (λ k q not. apart k q (λ same. not (omega (arith, same))))))

-- the bytes have a place
pub has_window : (fs : List Frame) (f : Frame) (own : ℕ → ℕ → Option (List ℕ)) (a j : ℕ) (bs : List ℕ)
    → place_from 0 (windows fs) a (length bs) ≡ Some j → f ≡ get_or fs j f
    → (ws : List Window) × (write_at (laid_from own 0 (windows fs)) a bs ≡ Some ws)
has_window fs f own a j bs e is = (_, (laid_there fs own a (length bs) j f e is).writes bs refl)
