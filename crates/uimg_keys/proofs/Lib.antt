mod TreeLaws
