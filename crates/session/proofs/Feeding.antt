-- Lines of an input, answered as they end. Assumes nothing.
use Rattle.std.proofs.Common.{◌≡◌, ℕ, ◌+◌, ◌-◌, ◌<◌, ◌≤◌, min, Bool, true, false, cond, eqb, ltb, leb, List, [], ◌∷◌, ◌++◌, length, take, drop, Some, None, Ok, Err, sym, refl, ap, ◌∙◌, subst, ⊎_elim, append_assoc, append-nil, arith}
use Rattle.std.proofs.lemmas.List.{take_all, take_at, take-take, take-append-drop, drop_at, drop_all, drop-drop, drop-take, length-append, length-drop, length_push, length-take}
use borrow.Rule.Slice.PartMut.{put_mid}
use Rattle.std.proofs.lemmas.Bool.{cond-false, cases_lt, le-ltb, lt-leb, eqb-true}
use Rattle.text.specs.Commands.{command_of, command_in}
use Rattle.text.specs.Cuts.{before, after}
use Rattle.text.specs.Readers.{unreadable}
use Rattle.text.specs.Texts.{added}
use Rattle.text.specs.Words.{words}
use Rattle.session.specs.Feeds.{Fed, LineEnded, ended, kept, unended, transcript, state_after, number_after}
use Rattle.text.specs.Writes.{over}
use Rattle.session.specs.Replies.{line_for, Spelt}
use Rattle.session.proofs.Spelling.{over_chunk}
use Rattle.session.specs.Sessions.{Answered, heard, obeyed, next_line, reply_to}
use Rattle.session.specs.Turns.{State, view}
use Rattle.session.specs.declared.feeds.Feed.{Feed}

-- of a line only the first 96 bytes matter
same_command : (l : List ℕ) → command_of (take 96 l) ≡ command_of l
same_command l =
    ⊎_elim
    (λ short. ap command_of (take_all 96 l (omega arith)))
    (λ long.
    let cut : length (take 96 l) ≡ min 96 (length l) = length-take 96 l in
    cond-false (leb (length (take 96 l)) 80) (command_in (words (take 96 l))) (Err (unreadable 1)) (lt-leb _ 80 (omega arith)) ∙ sym (cond-false (leb (length l) 80) (command_in (words l)) (Err (unreadable 1)) (lt-leb (length l) 80 (omega arith))))
    (cases_lt (length l) 96)

pub same_heard : (s : State) (l : List ℕ) → heard s (take 96 l) ≡ heard s l
same_heard s l = ap (obeyed s) (same_command l)

-- a line answered into a buffer with room; `full` is the whole line
pub line_ended :
    (f f' : Feed) (line full buffer buffer' : List ℕ) (k : ℕ) → heard (view f.session) line ≡ heard (view f.session) full → kept f' ≡ [] → view f'.session ≡ (heard (view f.session) line).0
    → f'.session.line ≡ next_line f.session.line → Spelt (reply_to (view f.session) line (next_line f.session.line)) buffer buffer' k → LineEnded f f' full buffer buffer' k
line_ended f f' line full buffer buffer' k same none state number spelt =
    let s = view f.session in
    let n = next_line f.session.line in
    let text : reply_to s line n ≡ reply_to s full n = ap (λ o. line_for o.1 n) same in
    record {
      state = state ∙ ap (λ o. o.0) same;
      number = number;
      left = none;
      written = spelt.count ∙ ap length text;
      room = spelt.short;
      bytes = spelt.bytes ∙ ap (λ t. over t buffer) text;
    }

-- a line answered into the first 96 bytes of a buffer
pub chunk_ended : (f f' : Feed) (line b out' : List ℕ) (k : ℕ) → LineEnded f f' line (take 96 b) out' k → LineEnded f f' line b (out' ++ drop 96 b) k
chunk_ended f f' line b out' k e = record {
  state = e.state;
  number = e.number;
  left = e.left;
  written = e.written;
  room = e.room;
  bytes = ap (λ l. l ++ drop 96 b) e.bytes ∙ over_chunk (reply_to (view f.session) line (next_line f.session.line)) b (omega (arith, e.written, e.room));
}

-- the reply to a line, written into a buffer with room
pub answered :
    (s s' : State) (n n' : ℕ) (line b out' : List ℕ) (k : ℕ) → 96 ≤ length b → s' ≡ (heard s line).0 → n' ≡ next_line n → Spelt (reply_to s line (next_line n)) (take 96 b) out' k
    → Answered s s' n n' line b (out' ++ drop 96 b) (Ok k)
answered s s' n n' line b out' k room state number spelt =
    let long : ltb (length b) 96 ≡ false = le-ltb _ _ room in
    let text = reply_to s line (next_line n) in
    let bytes : out' ++ drop 96 b ≡ over text b = ap (λ l. l ++ drop 96 b) spelt.bytes ∙ over_chunk text b (omega (arith, spelt.count, spelt.short)) in
    record {
      number = number;
      state = state ∙ sym (cond-false _ _ _ long);
      bytes = bytes ∙ sym (cond-false _ _ _ long);
      result = ap Ok spelt.count ∙ sym (cond-false _ _ _ long);
      short = λ _. omega (arith, spelt.count, spelt.short);
    }

-- lines of one input after another
pub ended_append : (p xs ys : List ℕ) → ended p (xs ++ ys) ≡ ended p xs ++ ended (unended p xs) ys
ended_append p [] ys = refl
ended_append p (x ∷ xs) ys = by_test (eqb x 10) (ended_append [] xs ys) (ended_append (p ++ (x ∷ [])) xs ys)
  where
    by_test : (t : Bool) → ended [] (xs ++ ys) ≡ ended [] xs ++ ended (unended [] xs) ys → ended (p ++ (x ∷ [])) (xs ++ ys) ≡ ended (p ++ (x ∷ [])) xs ++ ended (unended (p ++ (x ∷ [])) xs) ys → cond t (p ∷ ended [] (xs ++ ys)) (ended (p ++ (x ∷ [])) (xs ++ ys)) ≡ cond t (p ∷ ended [] xs) (ended (p ++ (x ∷ [])) xs) ++ ended (cond t (unended [] xs) (unended (p ++ (x ∷ [])) xs)) ys
    by_test true e f = ap (λ l. p ∷ l) e
    by_test false e f = f

pub unended_append : (p xs ys : List ℕ) → unended p (xs ++ ys) ≡ unended (unended p xs) ys
unended_append p [] ys = refl
unended_append p (x ∷ xs) ys = by_test (eqb x 10) (unended_append [] xs ys) (unended_append (p ++ (x ∷ [])) xs ys)
  where
    by_test : (t : Bool) → unended [] (xs ++ ys) ≡ unended (unended [] xs) ys → unended (p ++ (x ∷ [])) (xs ++ ys) ≡ unended (unended (p ++ (x ∷ [])) xs) ys → cond t (unended [] (xs ++ ys)) (unended (p ++ (x ∷ [])) (xs ++ ys)) ≡ unended (cond t (unended [] xs) (unended (p ++ (x ∷ [])) xs)) ys
    by_test true e f = e
    by_test false e f = f

-- replies of some lines after others
pub transcript_append : (s : State) (n : ℕ) (ks ls : List (List ℕ)) → transcript s n (ks ++ ls) ≡ transcript s n ks ++ transcript (state_after s ks) (number_after n ks) ls
transcript_append s n [] ls = refl
transcript_append s n (k ∷ ks) ls = ap (λ t. reply_to s k (next_line n) ++ t) (transcript_append (heard s k).0 (next_line n) ks ls) ∙ sym (append_assoc (reply_to s k (next_line n)) _ _)

pub state_append : (s : State) (ks ls : List (List ℕ)) → state_after s (ks ++ ls) ≡ state_after (state_after s ks) ls
state_append s [] ls = refl
state_append s (k ∷ ks) ls = state_append (heard s k).0 ks ls

pub number_append : (n : ℕ) (ks ls : List (List ℕ)) → number_after n (ks ++ ls) ≡ number_after (number_after n ks) ls
number_append n [] ls = refl
number_append n (k ∷ ks) ls = number_append (next_line n) ks ls

-- bytes before a line feed end no line
pub none_ended : (p xs : List ℕ) → (ended p (before 10 xs) ≡ []) × (unended p (before 10 xs) ≡ p ++ before 10 xs)
none_ended p [] = (refl, sym (append-nil p))
none_ended p (x ∷ xs) = by_test (eqb x 10) refl (none_ended (p ++ (x ∷ [])) xs)
  where
    by_test : (t : Bool) → eqb x 10 ≡ t → (ended (p ++ (x ∷ [])) (before 10 xs) ≡ []) × (unended (p ++ (x ∷ [])) (before 10 xs) ≡ (p ++ (x ∷ [])) ++ before 10 xs) → (ended p (cond t [] (x ∷ before 10 xs)) ≡ []) × (unended p (cond t [] (x ∷ before 10 xs)) ≡ p ++ cond t [] (x ∷ before 10 xs))
    by_test true e ih = (refl, sym (append-nil p))
    by_test false e ih = (cond-false _ _ _ e ∙ ih.0, cond-false _ _ _ e ∙ ih.1 ∙ append_assoc p (x ∷ []) (before 10 xs))

pub cut_joined : (xs ys : List ℕ) → after 10 xs ≡ Some ys → xs ≡ before 10 xs ++ (10 ∷ ys)
cut_joined [] ys e = cc
cut_joined (x ∷ xs) ys e = by_test (eqb x 10) refl e (cut_joined xs ys)
  where
    by_test : (t : Bool) → eqb x 10 ≡ t → cond t (Some xs) (after 10 xs) ≡ Some ys → (after 10 xs ≡ Some ys → xs ≡ before 10 xs ++ (10 ∷ ys)) → x ∷ xs ≡ cond t [] (x ∷ before 10 xs) ++ (10 ∷ ys)
    by_test true t e ih =
        let same : xs ≡ ys = cc in
        ap (λ b. b ∷ xs) (eqb-true x 10 t) ∙ ap (λ l. 10 ∷ l) same
    by_test false t e ih = ap (λ l. x ∷ l) (ih e)

pub cut_whole : (xs : List ℕ) → after 10 xs ≡ None → before 10 xs ≡ xs
cut_whole [] e = refl
cut_whole (x ∷ xs) e = by_test (eqb x 10) e (cut_whole xs)
  where
    by_test : (t : Bool) → cond t (Some xs) (after 10 xs) ≡ None → (after 10 xs ≡ None → before 10 xs ≡ xs) → cond t [] (x ∷ before 10 xs) ≡ x ∷ xs
    by_test true e ih = cc
    by_test false e ih = ap (λ l. x ∷ l) (ih e)

-- how far a feed has come at the end of a line
pub record Sofar (f f' : Feed) (input buffer buffer' : List ℕ) (k w : ℕ) : Type 0 where
  pub within : k ≤ length input
  pub state : view f'.session ≡ state_after (view f.session) (ended (kept f) (take k input))
  pub number : f'.session.line ≡ number_after f.session.line (ended (kept f) (take k input))
  pub left : kept f' ≡ unended (kept f) (take k input)
  pub room : w ≤ length buffer
  pub written : w ≡ length (transcript (view f.session) f.session.line (ended (kept f) (take k input)))
  pub bytes : buffer' ≡ over (transcript (view f.session) f.session.line (ended (kept f) (take k input))) buffer

-- the end: nothing more is read
pub stops : (f f' : Feed) (input buffer buffer' : List ℕ) (k w : ℕ) → Sofar f f' input buffer buffer' k w → (k < length input → length buffer < w + 96) → Fed f f' input buffer buffer' (record { «read» = k; written = w })
stops f f' input buffer buffer' k w s stop = record {
  within = s.within;
  stops = stop;
  state = s.state;
  number = s.number;
  left = sym (ap (take 96) (sym s.left) ∙ take_all 96 (kept f') f'.short);
  room = s.room;
  written = s.written;
  bytes = s.bytes;
}

take_on : {A : Type 0} (k m : ℕ) (xs : List A) → take (k + m) xs ≡ take k xs ++ take m (drop k xs)
take_on k m xs =
    sym (take-append-drop k (take (k + m) xs)) ∙ ap (λ l. l ++ drop k (take (k + m) xs)) (take-take k (k + m) xs (omega arith)) ∙ ap (λ l. take k xs ++ l) (drop-take k m xs)

length_over : (t b : List ℕ) → length t ≤ length b → length (over t b) ≡ length b
length_over t b h = length-append t (drop (length t) b) ∙ omega (arith, length-drop (length t) b)

-- the buffer may not hold another reply: nothing more is read or written
pub stopped :
    (f g g' : Feed) (input buffer b b' rest : List ℕ) (k w : ℕ) → Sofar f g input buffer b k w → rest ≡ drop k input → length b' < 96 → g' ≡ g → b' ≡ drop w b
    → Fed f g' input buffer (put_mid w (length b - w) b b') (record { «read» = length input - length rest; written = w })
stopped f g g' input buffer b b' rest k w s is short same_feed same =
    let len : length b' ≡ length b - w = ap length same ∙ length-drop w b in
    let all : length b ≡ length buffer = ap length s.bytes ∙ length_over (transcript (view f.session) f.session.line (ended (kept f) (take k input))) buffer (omega (arith, s.room, s.written)) in
    let at : k ≡ length input - length rest = omega (arith, s.within, ap length is, length-drop k input) in
    let none : drop (length b - w) (drop w b) ≡ [] = drop_all (length b - w) (drop w b) (omega (arith, length-drop w b)) in
    let back : put_mid w (length b - w) b b' ≡ b = ap (λ l. take w b ++ (b' ++ l)) none ∙ ap (λ l. take w b ++ l) (append-nil b' ∙ same) ∙ take-append-drop w b in
    let fed = stops f g input buffer b k w s (λ h. omega (arith, short, len, all, s.room)) in
    subst (λ x. Fed f x input buffer (put_mid w (length b - w) b b') (record { «read» = length input - length rest; written = w })) (sym same_feed)
    (subst (λ x. Fed f g input buffer x (record { «read» = length input - length rest; written = w })) (sym back) (subst (λ x. Fed f g input buffer b (record { «read» = x; written = w })) at fed))

-- the rest after a line feed is shorter
pub cut_shorter : (xs ys : List ℕ) → after 10 xs ≡ Some ys → length ys < length xs
cut_shorter xs ys e = omega (arith, ap length (cut_joined xs ys e) ∙ length-append (before 10 xs) (10 ∷ ys))

module _ (f g : Feed) (input buffer buffer' : List ℕ) (k w : ℕ) (s : Sofar f g input buffer buffer' k w) (part : List ℕ) (is : part ≡ before 10 (drop k input)) where
  abbrev sofar : List (List ℕ)
  sofar = ended (kept f) (take k input)

  -- no line feed is left: the rest begins a line
  pub rest_kept : (g' : Feed) → after 10 (drop k input) ≡ None → view g'.session ≡ view g.session → g'.session.line ≡ g.session.line → kept g' ≡ added (kept g) part → Fed f g' input buffer buffer' (record { «read» = length input; written = w })
  rest_kept g' none same_view same_line keeps =
      let q = unended (kept f) (take k input) in
      let all : take (length input) input ≡ take k input ++ part = take_all (length input) input (omega arith) ∙ sym (take-append-drop k input) ∙ ap (λ l. take k input ++ l) (sym (is ∙ cut_whole (drop k input) none)) in
      let no = none_ended q (drop k input) in
      let lines : ended (kept f) (take (length input) input) ≡ sofar = ap (ended (kept f)) all ∙ ended_append (kept f) (take k input) part ∙ ap (λ l. sofar ++ l) (ap (ended q) is ∙ no.0) ∙ append-nil sofar in
      let left : unended (kept f) (take (length input) input) ≡ kept g ++ part = ap (unended (kept f)) all ∙ unended_append (kept f) (take k input) part ∙ ap (unended q) is ∙ no.1 ∙ ap (λ l. q ++ l) (sym is) ∙ ap (λ l. l ++ part) (sym s.left) in
      record {
        within = omega arith;
        stops = λ h. absurd (omega arith);
        state = same_view ∙ s.state ∙ ap (state_after (view f.session)) (sym lines);
        number = same_line ∙ s.number ∙ ap (number_after f.session.line) (sym lines);
        left = keeps ∙ ap (take 96) (sym left);
        room = s.room;
        written = s.written ∙ ap (λ l. length (transcript (view f.session) f.session.line l)) (sym lines);
        bytes = s.bytes ∙ ap (λ l. over (transcript (view f.session) f.session.line l) buffer) (sym lines);
      }

  -- a line ends here
  module _ (g' : Feed) (ys b' : List ℕ) (r : ℕ) (some : after 10 (drop k input) ≡ Some ys) (e : LineEnded g g' (kept g ++ part) (drop w buffer') b' r) (inside : 96 ≤ length buffer' - w) where
    abbrev q : List ℕ
    q = unended (kept f) (take k input)

    joined : drop k input ≡ part ++ (10 ∷ ys)
    joined = cut_joined (drop k input) ys some ∙ ap (λ l. l ++ (10 ∷ ys)) (sym is)

    front : take (length part + 1) (part ++ (10 ∷ ys)) ≡ part ++ (10 ∷ [])
    front = ap (take (length part + 1)) (sym (append_assoc part (10 ∷ []) ys)) ∙ take_at (part ++ (10 ∷ [])) ys (length part + 1) (length_push part 10)

    taken : take (k + (length part + 1)) input ≡ take k input ++ (part ++ (10 ∷ []))
    taken = take_on k (length part + 1) input ∙ ap (λ l. take k input ++ l) (ap (take (length part + 1)) joined ∙ front)

    pub rest_after : ys ≡ drop (k + (length part + 1)) input
    rest_after =
        sym (sym (drop-drop (length part + 1) k input) ∙ ap (drop (length part + 1)) (joined ∙ sym (append_assoc part (10 ∷ []) ys)) ∙ drop_at (part ++ (10 ∷ [])) ys (length part + 1) (length_push part 10))

    no : (ended q part ≡ []) × (unended q part ≡ q ++ part)
    no = (ap (ended q) is ∙ (none_ended q (drop k input)).0, ap (unended q) is ∙ (none_ended q (drop k input)).1 ∙ ap (λ l. q ++ l) (sym is))

    lines : ended (kept f) (take (k + (length part + 1)) input) ≡ sofar ++ ((kept g ++ part) ∷ [])
    lines =
        ap (ended (kept f)) taken ∙ ended_append (kept f) (take k input) (part ++ (10 ∷ []))
        ∙ ap (λ l. sofar ++ l) (ended_append q part (10 ∷ []) ∙ ap (λ l. l ++ ended (unended q part) (10 ∷ [])) no.0 ∙ ap (λ l. l ∷ []) (no.1 ∙ ap (λ l. l ++ part) (sym s.left)))

    none_left : unended (kept f) (take (k + (length part + 1)) input) ≡ []
    none_left = ap (unended (kept f)) taken ∙ unended_append (kept f) (take k input) (part ++ (10 ∷ [])) ∙ unended_append q part (10 ∷ [])

    abbrev reply : List ℕ
    reply = reply_to (view g.session) (kept g ++ part) (next_line g.session.line)

    abbrev text : List ℕ
    text = transcript (view f.session) f.session.line sofar

    texts : transcript (view f.session) f.session.line (ended (kept f) (take (k + (length part + 1)) input)) ≡ text ++ reply
    texts =
        ap (transcript (view f.session) f.session.line) lines ∙ transcript_append (view f.session) f.session.line sofar ((kept g ++ part) ∷ [])
        ∙ ap (λ l. text ++ l) (append-nil _ ∙ ap (λ v. reply_to v (kept g ++ part) (next_line (number_after f.session.line sofar))) (sym s.state) ∙ ap (λ n. reply_to (view g.session) (kept g ++ part) (next_line n)) (sym s.number))

    long : length buffer' ≡ length buffer
    long = ap length s.bytes ∙ length_over text buffer (omega (arith, s.room, s.written))

    tail : drop w buffer' ≡ drop w buffer
    tail = ap (drop w) s.bytes ∙ drop_at text (drop (length text) buffer) w (sym s.written) ∙ ap (λ n. drop n buffer) (sym s.written)

    put : put_mid w (length buffer' - w) buffer' b' ≡ over (text ++ reply) buffer
    put =
        let head : take w buffer' ≡ text = ap (take w) s.bytes ∙ take_at text (drop (length text) buffer) w (sym s.written) in
        let none : drop (length buffer' - w) (drop w buffer') ≡ [] = drop_all (length buffer' - w) (drop w buffer') (omega (arith, length-drop w buffer')) in
        let new : b' ++ drop (length buffer' - w) (drop w buffer') ≡ over reply (drop w buffer) = ap (λ l. b' ++ l) none ∙ append-nil b' ∙ e.bytes ∙ ap (over reply) tail in
        let far : drop (length reply) (drop w buffer) ≡ drop (length (text ++ reply)) buffer = drop-drop (length reply) w buffer ∙ ap (λ n. drop n buffer) (ap (λ n. n + length reply) s.written ∙ sym (length-append text reply)) in
        ap (λ l. l ++ (b' ++ drop (length buffer' - w) (drop w buffer'))) head ∙ ap (λ l. text ++ l) (new ∙ ap (λ l. reply ++ l) far) ∙ sym (append_assoc text reply (drop (length (text ++ reply)) buffer))

    pub line_fed : Sofar f g' input buffer (put_mid w (length buffer' - w) buffer' b') (k + (length part + 1)) (w + r)
    line_fed = record {
      within = omega (arith, s.within, length-drop k input, ap length joined ∙ length-append part (10 ∷ ys));
      state = e.state ∙ ap (λ v. (heard v (kept g ++ part)).0) s.state ∙ sym (ap (state_after (view f.session)) lines ∙ state_append (view f.session) sofar ((kept g ++ part) ∷ []));
      number = e.number ∙ ap next_line s.number ∙ sym (ap (number_after f.session.line) lines ∙ number_append f.session.line sofar ((kept g ++ part) ∷ []));
      left = e.left ∙ sym none_left;
      room = omega (arith, e.room, inside, long);
      written = omega (arith, s.written, e.written, ap length texts ∙ length-append text reply);
      bytes = put ∙ ap (λ t. over t buffer) (sym texts);
    }
