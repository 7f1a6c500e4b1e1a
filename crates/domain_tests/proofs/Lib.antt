mod EachLemmas
