-- Which words are which command, in worked values.
use Rattle.std.proofs.Common.{◌≡◌, true, false, [], ◌∷◌, refl}
use Rattle.std.specs.Prelude.{Some, None, codes}
use Rattle.command_words.specs.Command.{stages, pipe, frame, net, is_digit_count, command_in}
use Rattle.command_words.specs.WordLists.{is_word_list, places_in}

zero : is_digit_count 4 (codes "0") ≡ false
zero = refl

most : is_digit_count 4 (codes "4") ≡ true
most = refl

above_the_most : is_digit_count 4 (codes "5") ≡ false
above_the_most = refl

leading_zero : is_digit_count 4 (codes "02") ≡ false
leading_zero = refl

no_digit : is_digit_count 4 (codes "x") ≡ false
no_digit = refl

empty : is_digit_count 4 (codes "") ≡ false
empty = refl

stages_of : command_in (codes "stages" ∷ codes "a" ∷ codes "b" ∷ codes "3" ∷ [])
    ≡ Some (stages (codes "a") (codes "b") 3)
stages_of = refl

pipe_of : command_in (codes "pipe" ∷ codes "a" ∷ codes "b" ∷ codes "1" ∷ codes "c" ∷ codes "d" ∷ [])
    ≡ Some (pipe (codes "a") (codes "b") 1 (codes "c") (codes "d"))
pipe_of = refl

pipe_into_its_samples : command_in (codes "pipe" ∷ codes "a" ∷ codes "b" ∷ codes "1" ∷ codes "c" ∷ codes "c" ∷ [])
    ≡ None
pipe_into_its_samples = refl

no_words : is_word_list (codes "-") ≡ true
no_words = refl

no_places : places_in (codes "-") ≡ []
no_places = refl

some_words : is_word_list (codes "0,3,15") ≡ true
some_words = refl

some_places : places_in (codes "0,3,15") ≡ 0 ∷ 3 ∷ 15 ∷ []
some_places = refl

falling : is_word_list (codes "3,0") ≡ false
falling = refl

twice : is_word_list (codes "0,0") ≡ false
twice = refl

two_zeros : is_word_list (codes "00") ≡ false
two_zeros = refl

zero_in_front : is_word_list (codes "1,02") ≡ false
zero_in_front = refl

comma_behind : is_word_list (codes "1,") ≡ false
comma_behind = refl

comma_in_front : is_word_list (codes ",1") ≡ false
comma_in_front = refl

two_commas : is_word_list (codes "1,,2") ≡ false
two_commas = refl

no_text : is_word_list (codes "") ≡ false
no_text = refl

past_the_last : is_word_list (codes "16") ≡ false
past_the_last = refl

none_and_one : is_word_list (codes "-,1") ≡ false
none_and_one = refl

frame_of : command_in (codes "frame" ∷ codes "a" ∷ codes "b" ∷ codes "2" ∷ codes "0" ∷ codes "-" ∷ codes "c" ∷ [])
    ≡ Some (frame (codes "a") (codes "b") 2 (0 ∷ []) [] (codes "c"))
frame_of = refl

frame_into_its_source :
    command_in (codes "frame" ∷ codes "a" ∷ codes "b" ∷ codes "2" ∷ codes "0" ∷ codes "-" ∷ codes "a" ∷ []) ≡ None
frame_into_its_source = refl

net_of : command_in (codes "net" ∷ codes "a" ∷ codes "b" ∷ codes "c" ∷ [])
    ≡ Some (net (codes "a") (codes "b") (codes "c"))
net_of = refl

net_into_itself : command_in (codes "net" ∷ codes "a" ∷ codes "b" ∷ codes "a" ∷ []) ≡ None
net_into_itself = refl
