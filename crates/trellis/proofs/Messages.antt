-- Law 6: messages and the paths to the terminal are one to one; the terminal's cost is the least metric; the least messages are as many as
-- the least paths to the terminal. The verdict from them stands at the end. How large a metric can be is in Bounds. Assumes nothing.
use mathlib.Core.Path.{◌≡◌, refl, sym, ap, ◌∙◌, subst}
use mathlib.Core.List.{List, [], ◌∷◌, ◌++◌, map, reverse, reverse-reverse}
use Prim.Native.Nat.{ℕ, zero, suc, ◌+◌, ◌≤◌, ◌<◌}
use native.Mathlib.Omega.{arith}
use lib.Dec.{eqb, eqb→eq, eqb_refl}
use lib.ListN.{length, drop, replicate, length-append, length-replicate, length-reverse, length-drop, length-map}
use lib.Seq.{drop_at}
use Rattle.lists.specs.Lists.{least}
use Rattle.lists.proofs.Membership.{◌∈◌, here, further, nil_out, singleton_out, member_cast, Every, every_cons, member_length}
use Rattle.lists.proofs.Membership.{keep_in, keep_out, map_in, map_out, reverse_out}
use Rattle.lists.proofs.Unique.{Unique, keep_unique, map_unique}
use Rattle.lists.proofs.Least.{least_le, least_of}
use Rattle.lists.proofs.Words.{grown_in, grown_out, grown_unique}
use Rattle.trellis.specs.Trellis.{Trellis, Path, top, allowed, terminal, metric}
use Rattle.trellis.specs.Verdict.{words, messages, path_of, least_metric, least_messages, steps, answered, tied, decided}
use Rattle.trellis.specs.Lawful.{Allowed, start, step, Lawful, Ends}
use Rattle.trellis.specs.Search.{message_of}
use Rattle.trellis.proofs.Paths.{Reached, allowed_message, allowed_tail, allowed_top}
use Rattle.trellis.proofs.Cost.{Cost, cost_unique, LeastPaths, least_paths_length}

-- ---- messages

-- what a word is
pub record Word (n k : ℕ) (w : List ℕ) : Type 0 where
  pub length : length w ≡ k
  pub fits : Every (λ b. b < n) w

-- the words are all lists of k numbers below n, each once
pub words_in : (n : ℕ) (w : List ℕ) → Every (λ b. b < n) w → w ∈ words n (length w)
unfolding words
words_in n [] h = here refl
words_in n (b ∷ w) h = grown_in n (h b (here refl)) (words_in n w (λ a m. h a (further m)))

-- and back
pub words_out : (n k : ℕ) {w : List ℕ} → w ∈ words n k → Word n k w
unfolding words
words_out n zero {w} m =
    let e : w ≡ [] = singleton_out m in
    record { length = ap length e; fits = (λ b k. absurd (nil_out (subst (λ (l : List ℕ). b ∈ l) e k))) }
words_out n (suc k) {w} m =
    let r = grown_out n (words n k) m in
    let h = words_out n k r.member in
    record {
      length = ap length r.equal ∙ ap suc h.length;
      fits = subst (λ (l : List ℕ). Every (λ b. b < n) l) (sym r.equal) (every_cons (λ b. b < n) r.fits h.fits);
    }

-- so messages can be counted
pub words_unique : (n k : ℕ) → Unique (words n k)
unfolding words
words_unique n zero = (λ m. nil_out m, tt)
words_unique n (suc k) = grown_unique n (words n k) (words_unique n k)

-- and so are the messages
pub messages_unique : (t : Trellis) → Unique (messages t)
unfolding messages
messages_unique t = words_unique t.inputs t.span

-- ---- the path of a message, and the message of a path

-- below the tail: the inputs are those of a message
span_allowed : (t : Trellis) (p : Path) → length p ≤ t.span → Every (λ b. b < t.inputs) p → Allowed t p
span_allowed t [] h f = start
span_allowed t (b ∷ p) h f =
    let k : b < allowed t (length p) = rw (allowed_message t (length p) h) (f b (here refl)) in
    step k (span_allowed t p (omega arith) (λ a m. f a (further m)))

-- and back
span_fits : {t : Trellis} {p : Path} → Allowed t p → length p ≤ t.span → Every (λ b. b < t.inputs) p
span_fits start h b m = absurd (nil_out m)
span_fits {t} (step {p = p} k al) h b m = every_cons (λ b. b < t.inputs) (rw (allowed_message t (length p) h) at k) (span_fits al (omega arith)) b m

-- in the tail: zeros
length_zeros : (k : ℕ) (p : Path) → length (replicate k 0 ++ p) ≡ k + length p
length_zeros k p = length-append (replicate k 0) p ∙ ap (λ (n : ℕ). n + length p) (length-replicate {A = ℕ} k 0)

-- zeros after a message are allowed
tail_allowed : (t : Trellis) (k : ℕ) (p : Path) → k ≤ t.tail → length p ≡ t.span → Allowed t p → Allowed t (replicate k 0 ++ p)
tail_allowed t zero p h e al = al
tail_allowed t (suc k) p h e al =
    let n : length (replicate k 0 ++ p) ≡ k + length p = length_zeros k p in
    let one : allowed t (length (replicate k 0 ++ p)) ≡ 1 = allowed_tail t (length (replicate k 0 ++ p)) (omega arith) (omega arith) in
    let fits : 0 < allowed t (length (replicate k 0 ++ p)) = omega arith in
    step fits (tail_allowed t k p (omega arith) e al)

-- what the tail's steps of an allowed path are
record Tailed (t : Trellis) (k : ℕ) (p : Path) : Type 0 where
  zeros : p ≡ replicate k 0 ++ drop k p
  rest : Allowed t (drop k p)

-- and nothing else is
tail_zeros : (t : Trellis) (k : ℕ) (p : Path) → length p ≡ t.span + k → Allowed t p → Tailed t k p
tail_zeros t zero p e al = record { zeros = refl; rest = al }
tail_zeros t (suc k) [] e al = absurd (omega arith)
tail_zeros t (suc k) (b ∷ p) e (step h al) =
    let one : allowed t (length p) ≡ 1 = allowed_tail t (length p) (omega arith) (allowed_top t (length p) b h) in
    let z : b ≡ 0 = omega arith in
    let r : Tailed t k p = tail_zeros t k p (omega arith) al in
    record { zeros = λ i. z i ∷ r.zeros i; rest = r.rest }

module _ (t : Trellis) where
  -- a message's path is allowed
  pub path_of_allowed : {w : List ℕ} → w ∈ messages t → Allowed t (path_of t w)
  unfolding messages path_of
  path_of_allowed {w} m =
      let h = words_out t.inputs t.span m in
      let n : length (reverse w) ≡ t.span = length-reverse w ∙ h.length in
      tail_allowed t t.tail (reverse w) (omega arith) n (span_allowed t (reverse w) (omega arith) (λ b k. h.fits b (reverse_out w b k)))

  -- so its level is the terminal's
  pub path_of_length : {w : List ℕ} → w ∈ messages t → length (path_of t w) ≡ top t
  unfolding messages path_of
  path_of_length {w} m =
      let h = words_out t.inputs t.span m in
      omega (arith, length_zeros t.tail (reverse w), length-reverse w, h.length)

  -- one to one: back from the path comes the message
  pub message_of_path_of : (w : List ℕ) → message_of t (path_of t w) ≡ w
  unfolding path_of
  message_of_path_of w =
      ap reverse (drop_at (replicate t.tail 0) (reverse w) t.tail (length-replicate t.tail 0)) ∙ reverse-reverse w

  -- so no two messages share a path
  pub path_of_injective : (v w : List ℕ) → path_of t v ≡ path_of t w → v ≡ w
  path_of_injective v w e = sym (message_of_path_of v) ∙ ap (message_of t) e ∙ message_of_path_of w

  -- onto: every allowed path to the top is its message's path
  pub path_of_message_of : {p : Path} → Allowed t p → length p ≡ top t → path_of t (message_of t p) ≡ p
  unfolding path_of
  path_of_message_of {p} al e =
      ap (λ (q : Path). replicate t.tail 0 ++ q) (reverse-reverse (drop t.tail p)) ∙ sym (tail_zeros t t.tail p e al).zeros

  -- and its message is one of the messages
  pub message_of_in : {p : Path} → Allowed t p → length p ≡ top t → message_of t p ∈ messages t
  unfolding messages
  message_of_in {p} al e =
      let d : Path = drop t.tail p in
      let n : length d ≡ t.span = omega (arith, length-drop t.tail p) in
      subst (λ (k : ℕ). reverse d ∈ words t.inputs k) (length-reverse d ∙ n)
      (words_in t.inputs (reverse d) (λ b m. span_fits (tail_zeros t t.tail p e al).rest (omega arith) b (reverse_out d b m)))

-- ---- the least messages

-- a message's metric
abbrev pub metric_of : Trellis → List ℕ → ℕ
metric_of t w = metric t (path_of t w)

-- what a least message is
pub record Least (t : Trellis) (w : List ℕ) : Type 0 where
  pub member : w ∈ messages t
  pub paid : metric_of t w ≡ least_metric t

-- to go from what the list says to the list
pub least_messages_in : {t : Trellis} {w : List ℕ} → Least t w → w ∈ least_messages t
unfolding least_messages
least_messages_in {t} h = keep_in (λ w. eqb (metric_of t w) (least_metric t)) h.member (rw h.paid (eqb_refl (least_metric t)))

-- and back
pub least_messages_out : (t : Trellis) {w : List ℕ} → w ∈ least_messages t → Least t w
unfolding least_messages
least_messages_out t {w} m =
    let r = keep_out (λ w. eqb (metric_of t w) (least_metric t)) (messages t) m in
    record { member = r.member; paid = eqb→eq (metric_of t w) (least_metric t) r.passes }

-- none twice: their number is how many share the least metric
pub least_messages_unique : (t : Trellis) → Unique (least_messages t)
unfolding least_messages
least_messages_unique t = keep_unique (λ w. eqb (metric_of t w) (least_metric t)) (messages t) (messages_unique t)

-- what zeros hold
replicate_out : (n a : ℕ) → Every (λ b. b ≡ a) (replicate n a)
replicate_out zero a b m = absurd (nil_out m)
replicate_out (suc n) a b (here e) = e
replicate_out (suc n) a b (further m) = replicate_out n a b m

module _ {t : Trellis} (law : Lawful t) where
  -- ---- the terminal

  -- a message's path ends in the terminal
  pub path_of_ends : {w : List ℕ} → w ∈ messages t → Ends t (terminal t) (path_of t w)
  path_of_ends {w} m =
      let al = path_of_allowed t m in
      let n = path_of_length t m in
      record { allowed = al; level = n; state = law.closes (path_of t w) al n }

  -- there is a message: zeros
  pub message_some : replicate t.span 0 ∈ messages t
  unfolding messages
  message_some =
      subst (λ (k : ℕ). replicate t.span 0 ∈ words t.inputs k) (length-replicate {A = ℕ} t.span 0)
      (words_in t.inputs (replicate t.span 0) (λ b m. rw (replicate_out t.span 0 b m) law.wide))

  -- so the search comes to an end
  pub terminal_reached : Reached t (terminal t)
  terminal_reached = record { path = path_of t (replicate t.span 0); there = path_of_ends message_some }

  -- the terminal's cost is the least metric
  pub least_metric_cost : Cost t (terminal t) (least_metric t)
  unfolding least_metric
  least_metric_cost =
      let r = map_out (metric_of t) (messages t) (least_of (map_in (metric_of t) message_some)) in
      record { path = path_of t r.source; there = path_of_ends r.member; paid = sym r.equal; least = (λ p h. low p h) }
    where
      low : (p : Path) → Ends t (terminal t) p → least (map (metric_of t) (messages t)) ≤ metric t p
      low p h =
          let own : metric_of t (message_of t p) ≡ metric t p = ap (metric t) (path_of_message_of t h.allowed h.level) in
          omega (arith, least_le (map (metric_of t) (messages t)) (map_in (metric_of t) (message_of_in t h.allowed h.level)))

  -- to go on with a cost that was found
  pub least_metric_is : {c : ℕ} → Cost t (terminal t) c → least_metric t ≡ c
  least_metric_is h = cost_unique least_metric_cost h

  -- ---- how many share it

  -- the least messages' paths are the least paths to the terminal
  pub least_messages_paths : LeastPaths t (terminal t) (least_metric t) (map (path_of t) (least_messages t))
  least_messages_paths = record {
    once = map_unique (path_of t) (least_messages t) (λ v w m n e. path_of_injective t v w e) (least_messages_unique t);
    there = (λ p m.
        let r = map_out (path_of t) (least_messages t) m in
        subst (Ends t (terminal t)) (sym r.equal) (path_of_ends (least_messages_out t r.member).member));
    paid = (λ p m. let r = map_out (path_of t) (least_messages t) m in ap (metric t) r.equal ∙ (least_messages_out t r.member).paid);
    full = (λ p h e.
        let q : path_of t (message_of t p) ≡ p = path_of_message_of t h.allowed h.level in
        member_cast (sym q) (map_in (path_of t) (least_messages_in (record { member = message_of_in t h.allowed h.level; paid = ap (metric t) q ∙ e }))));
  }

  -- never empty: 'some message always has it'
  pub least_messages_some : 0 < length (least_messages t)
  least_messages_some =
      let C = least_metric_cost in
      omega (arith, length-map (least_messages t) (path_of t), member_length (least_messages_paths.full C.path C.there C.paid))

  module _ {c : ℕ} (C : Cost t (terminal t) c) where
    -- the same, with a cost that was found
    own_paths : LeastPaths t (terminal t) c (map (path_of t) (least_messages t))
    own_paths = subst (λ (d : ℕ). LeastPaths t (terminal t) d (map (path_of t) (least_messages t))) (least_metric_is C) least_messages_paths

    -- as many as the search counts least paths to the terminal
    pub least_messages_length : {rs : List Path} → LeastPaths t (terminal t) c rs → length (least_messages t) ≡ length rs
    least_messages_length r = sym (length-map (least_messages t) (path_of t)) ∙ least_paths_length own_paths r

    -- where one path alone is least, its message alone is
    pub least_messages_one : {p : Path} → LeastPaths t (terminal t) c (p ∷ []) → least_messages t ≡ message_of t p ∷ []
    least_messages_one {p} r =
        go (least_messages t) (least_messages_length r)
        (λ w m. r.full (path_of t w) (own_paths.there (path_of t w) (map_in (path_of t) m)) (own_paths.paid (path_of t w) (map_in (path_of t) m)))
      where
        go : (l : List (List ℕ)) → length l ≡ 1 → ((w : List ℕ) → w ∈ l → path_of t w ∈ (p ∷ [])) → l ≡ message_of t p ∷ []
        go [] e f = absurd (omega arith)
        go (w ∷ []) e f = ap (λ (v : List ℕ). v ∷ []) (sym (message_of_path_of t w) ∙ ap (message_of t) (singleton_out (f w (here refl))))
        go (w ∷ v ∷ l) e f = absurd (omega arith)

    -- ---- the verdict from them

    -- 0: 'if one has'
    pub decided_answered : {p : Path} → LeastPaths t (terminal t) c (p ∷ []) → decided t (least_messages t) ≡ answered (message_of t p) c (steps t)
    unfolding decided
    decided_answered r = rw (least_messages_one r, least_metric_is C)

    -- '5 if two or more messages have it'
    pub decided_tied : {rs : List Path} → LeastPaths t (terminal t) c rs → 2 ≤ length rs → decided t (least_messages t) ≡ tied c (steps t)
    unfolding decided
    decided_tied {rs} r h = go (least_messages t) (least_messages_length r)
      where
        go : (l : List (List ℕ)) → length l ≡ length rs → decided t l ≡ tied c (steps t)
        go [] e = absurd (omega arith)
        go (w ∷ []) e = absurd (omega arith)
        go (w ∷ v ∷ l) e = ap (λ (d : ℕ). tied d (steps t)) (least_metric_is C)
