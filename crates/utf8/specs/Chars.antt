-- The characters that 01's rules name, by their code points.
use Rattle.std.specs.Prelude.{ℕ}

abbrev pub 'nul : ℕ
'nul = 0

abbrev pub 'tab : ℕ
'tab = 9

abbrev pub 'newline : ℕ
'newline = 10

abbrev pub 'carriage_return : ℕ
'carriage_return = 13

abbrev pub '! : ℕ
'! = 33

abbrev pub 'dquote : ℕ
'dquote = 34

abbrev pub '# : ℕ
'# = 35

abbrev pub '& : ℕ
'& = 38

abbrev pub 'quote : ℕ
'quote = 39

abbrev pub 'paren : ℕ
'paren = 40

abbrev pub 'unparen : ℕ
'unparen = 41

abbrev pub '* : ℕ
'* = 42

abbrev pub '+ : ℕ
'+ = 43

abbrev pub 'comma : ℕ
'comma = 44

abbrev pub '- : ℕ
'- = 45

abbrev pub 'dot : ℕ
'dot = 46

abbrev pub '/ : ℕ
'/ = 47

abbrev pub '0 : ℕ
'0 = 48

abbrev pub '1 : ℕ
'1 = 49

abbrev pub ': : ℕ
': = 58

abbrev pub 'semi : ℕ
'semi = 59

abbrev pub '< : ℕ
'< = 60

abbrev pub '= : ℕ
'= = 61

abbrev pub '> : ℕ
'> = 62

abbrev pub '? : ℕ
'? = 63

abbrev pub 'at : ℕ
'at = 64

abbrev pub 'K : ℕ
'K = 75

abbrev pub 'L : ℕ
'L = 76

abbrev pub 'R : ℕ
'R = 82

abbrev pub 'T : ℕ
'T = 84

abbrev pub '[ : ℕ
'[ = 91

abbrev pub 'backslash : ℕ
'backslash = 92

abbrev pub '] : ℕ
'] = 93

abbrev pub 'underscore : ℕ
'underscore = 95

abbrev pub 'backtick : ℕ
'backtick = 96

abbrev pub 'a : ℕ
'a = 97

abbrev pub 'b : ℕ
'b = 98

abbrev pub 'c : ℕ
'c = 99

abbrev pub 'd : ℕ
'd = 100

abbrev pub 'e : ℕ
'e = 101

abbrev pub 'f : ℕ
'f = 102

abbrev pub 'g : ℕ
'g = 103

abbrev pub 'h : ℕ
'h = 104

abbrev pub 'i : ℕ
'i = 105

abbrev pub 'l : ℕ
'l = 108

abbrev pub 'm : ℕ
'm = 109

abbrev pub 'n : ℕ
'n = 110

abbrev pub 'o : ℕ
'o = 111

abbrev pub 'p : ℕ
'p = 112

abbrev pub 'r : ℕ
'r = 114

abbrev pub 's : ℕ
's = 115

abbrev pub 't : ℕ
't = 116

abbrev pub 'u : ℕ
'u = 117

abbrev pub 'w : ℕ
'w = 119

abbrev pub 'x : ℕ
'x = 120

abbrev pub 'y : ℕ
'y = 121

abbrev pub 'brace : ℕ
'brace = 123

abbrev pub 'unbrace : ℕ
'unbrace = 125

abbrev pub '~ : ℕ
'~ = 126
